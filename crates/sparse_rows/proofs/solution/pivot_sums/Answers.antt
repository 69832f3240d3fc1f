use Rattle.std.proofs.Common.{◌<◌, refl, subst, sym, length, arith, []}
use Rattle.sparse_rows.specs.Prelude.{kepts, AreSolved}
use Rattle.list_laws.proofs.Members.{each_read}
use Rattle.sparse_rows.proofs.PivotSums.{leading-at, solved-at, solved-end}
use Rattle.sparse_rows.proofs.solution.pivot_sums.Goals as goal

pub loop-row-init : goal.loop-row-init
loop-row-init c = (subst (AreSolved (kepts c.args.kept.now) []) (sym c.in-Ok.ensures.items) tt, (omega arith))

pub pivot_sum-requires-clause-row : goal.pivot_sum-requires-clause-row
pivot_sum-requires-clause-row c = each_read _ c.args.kept.now c.requires.rows c.loop-row.row-index c.row-item.result c.loop-row-test.true c.row-item.is

pub pivot_sum-requires-clause-leading : goal.pivot_sum-requires-clause-leading
pivot_sum-requires-clause-leading c = leading-at c.args.kept.now c.loop-row.row-index c.row-item.result c.loop-row-test.true c.row-item.is c.requires.reduced

pub loop-row-preserved : goal.loop-row-preserved
loop-row-preserved c =
    let ks = c.args.kept.now in
    let i = c.loop-row.row-index in
    let h : i < length ks = c.loop-row-test.true in
    (solved-at ks i c.row-item.result c.loop-row.sums.items c.push.new.self.items _ c.loop-row.invariant.0 c.requires.reduced h c.row-item.is refl c.in_ok-terms.ensures c.in-Ok-push.ensures.items, (omega (arith, h)))

pub returns : goal.returns
returns c = solved-end c.args.kept.now c.loop-row.row-index c.loop-row.sums.items c.loop-row.invariant.0 c.loop-row-test.false
