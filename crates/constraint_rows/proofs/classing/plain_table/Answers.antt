use Rattle.std.proofs.Common.{◌≡◌, ap, sym, ◌∙◌, subst}
use Rattle.tensor_rank.proofs.ExchangeLaws.{exchanges_reversible}
use Rattle.sign_moves.proofs.JoinedLaws.{joined_reversible}
use Rattle.constraint_rows.specs.PlainOps.{ArePermutations}
use Rattle.constraint_rows.proofs.OpLaws.{ops_reversible}
use Rattle.constraint_rows.proofs.classing.plain_table.Goals as goal

pub new-requires-3-clause-reversible : goal.new-requires-3-clause-reversible
new-requires-3-clause-reversible g c =
    let same : c.new-moves.result.second.ops.now ≡ c.args.ops.now = ap (λ s. s.ops.now) c.new-moves.ensures.second ∙ c.new-2.ensures in
    joined_reversible
    (exchanges_reversible _ _ _ g.R.Rank.power c.new-moves.result.first.within)
    (ops_reversible _ _ _ g.R.Rank.power (subst ArePermutations (sym same) c.requires.permutations))

pub first_table-requires-clause-reversible : goal.first_table-requires-clause-reversible
first_table-requires-clause-reversible g c =
    let same : c.new-moves.result.second.ops.now ≡ c.args.ops.now = ap (λ s. s.ops.now) c.new-moves.ensures.second ∙ c.new-2.ensures in
    rw c.in_ok-tabled.ensures (joined_reversible
    (exchanges_reversible _ _ _ g.R.Rank.power c.new-moves.result.first.within)
    (ops_reversible _ _ _ g.R.Rank.power (subst ArePermutations (sym same) c.requires.permutations)))
