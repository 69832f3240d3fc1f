use Rattle.list_laws.proofs.Kit.{◌≡◌, ◌≤◌, arith, IfOk-weaker}
use Rattle.constraint_rows.proofs.OpRowLaws.{small_parts, op_row}
use Rattle.constraint_rows.proofs.ops.PlainOp.row.Goals as goal

pub digit_row-requires-clause-small : goal.digit_row-requires-clause-small
digit_row-requires-clause-small g c =
    let few : g.R.Rank.R ≤ 6 = g.R.Rank.small in
    let size : c.R.result ≡ g.R.Rank.R = c.R.ensures in
    small_parts g.R.Rank.R c.R.result c.args.self.now c.requires c.loop-place.parts few size c.loop-place.invariant.len (λ k h. c.loop-place.invariant.each k (omega (arith, c.R-place-end.ensures)))

pub returns : goal.returns
returns g c =
    let few : g.R.Rank.R ≤ 6 = g.R.Rank.small in
    let size : c.R.result ≡ g.R.Rank.R = c.R.ensures in
    IfOk-weaker c.digit_row.result _ _ (λ row d.
    op_row g.R.Rank.R c.R.result c.args.self.now c.requires c.loop-place.parts few size c.loop-place.invariant.len (λ k h. c.loop-place.invariant.each k (omega (arith, c.R-place-end.ensures))) row.items d) c.digit_row.ensures
