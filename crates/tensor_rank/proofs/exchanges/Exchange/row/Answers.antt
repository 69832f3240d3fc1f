use Rattle.list_laws.proofs.Kit.{◌≡◌, ◌≤◌, List, take, length, arith, subst, IfOk-weaker}
use Rattle.tensor_defs.specs.declared.Sign.{Sign}
use Rattle.sign_moves.specs.declared.tabled.Step.{Step}
use Rattle.sign_moves.specs.Digits.{IsDigitRow}
use Rattle.tensor_rank.proofs.ExchangeRowLaws.{front_small_parts, front_row}
use Rattle.tensor_rank.proofs.exchanges.Exchange.row.Goals as goal

pub digit_row-requires-clause-small : goal.digit_row-requires-clause-small
digit_row-requires-clause-small g c =
    let few : g.R.Rank.R ≤ 6 = g.R.Rank.small in
    let size : c.R.result ≡ g.R.Rank.R = c.R.ensures in
    front_small_parts g.R.Rank.R c.R.result c.args.self.now c.requires.within c.loop-place.parts few size c.loop-place.invariant.len (λ k h. c.loop-place.invariant.each k (omega (arith, c.R-place-end.ensures)))

pub returns : goal.returns
returns g c =
    let few : g.R.Rank.R ≤ 6 = g.R.Rank.small in
    let size : c.R.result ≡ g.R.Rank.R = c.R.ensures in
    let parts : List (List Step) = take c.R.result c.loop-place.parts in
    IfOk-weaker c.digit_row.result _ _ (λ row d.
    front_row g.R.Rank.R c.R.result c.args.self.now c.requires.within c.loop-place.parts few size c.loop-place.invariant.len (λ k h. c.loop-place.invariant.each k (omega (arith, c.R-place-end.ensures))) row.items
    (subst (λ (s : Sign). IsDigitRow parts s (length parts) row.items) c.sign.ensures d)) c.digit_row.ensures
