use Rattle.std.proofs.Common.{◌≡◌, List, filter, ap, arith, ◌∙◌, subst}
use Rattle.tensor_defs.specs.Words.{Word, words}
use Rattle.tensor_rank.specs.Orders.{before_at}
use Rattle.constraint_rows.specs.Prelude.{is_chosen, words_below, AreWordRows}
use Rattle.constraint_rows.proofs.WordLaws.{words_listed}
use Rattle.constraint_rows.proofs.words.chosen_rows.Goals as goal

pub returns : goal.returns
returns g c =
    let end : c.loop-number.number ≡ g.R.Rank.LEN = omega (arith, c.LEN-number-end.ensures) in
    let all : words_below g.R.Rank.R c.loop-number.number ≡ words g.R.Rank.R =
    ap (words_below g.R.Rank.R) (end ∙ g.R.Rank.power) ∙ words_listed g.R.Rank.R in
    record {
      rows =
          subst (λ (ws : List Word). AreWordRows g.R.Rank.R (before_at g.R.Rank.R c.args.order.now) c.args.classes.now (filter (is_chosen c.args.rotations) ws) c.loop-number.rows.items)
          all c.loop-number.invariant.rows.gone;
    }
