use Rattle.std.proofs.Common.{◌<◌, refl, length, arith}
use Rattle.sparse_rows.proofs.PivotSums.{turning-start, turning-at, turning-end}
use Rattle.sparse_rows.proofs.solution.negated.Goals as goal

pub loop-entry-init : goal.loop-entry-init
loop-entry-init c = (turning-start c.args.entries.now c.in-Ok.out.items c.requires c.in-Ok.ensures.items, (omega arith))

pub loop-entry-preserved : goal.loop-entry-preserved
loop-entry-preserved c =
    let xs = c.args.entries.now in
    let i = c.loop-entry.entry-index in
    let a = c.entry-item.result in
    let h : i < length xs = c.loop-entry-test.true in
    (turning-at xs i a (record { unknown = a.unknown; value = c.neg-value.result }) c.loop-entry.out.items c.push.new.self.items c.loop-entry.invariant.0 c.requires h c.entry-item.is refl c.neg-value.ensures.value c.in-Ok-push.ensures.items, (omega (arith, h)))

pub returns : goal.returns
returns c = turning-end c.args.entries.now c.loop-entry.entry-index c.loop-entry.out.items c.loop-entry.invariant.0 c.loop-entry-test.false
