use Rattle.std.proofs.Common.{arith}
use Rattle.sparse_rows.proofs.Marking.{marking-end, marking-start, marking-step}
use Rattle.sparse_rows.proofs.marks.mark_all.Goals as goal

pub loop-entry-init : goal.loop-entry-init
loop-entry-init c = (marking-start c.args.marks.now c.args.row.now c.requires, omega arith)

pub loop-entry-preserved : goal.loop-entry-preserved
loop-entry-preserved c = (
  marking-step c.args.marks.now c.args.row.now c.loop-entry.entry-index c.loop-entry.marks c.entry-item.result c.loop-entry-test.true c.entry-item.is c.loop-entry.invariant.0,
  omega arith,
)

pub returns : goal.returns
returns c = marking-end c.args.marks.now c.args.row.now c.loop-entry.entry-index c.loop-entry.marks c.requires c.loop-entry-test.false c.loop-entry.invariant.0
