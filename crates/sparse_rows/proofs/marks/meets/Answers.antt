use Rattle.std.proofs.Common.{arith, sym, ◌∙◌}
use Rattle.sparse_rows.proofs.Marking.{passing-end, passing-start, passing-step}
use Rattle.sparse_rows.proofs.marks.meets.Goals as goal

pub loop-entry-init : goal.loop-entry-init
loop-entry-init c = (passing-start c.args.marks.now c.args.row.now, omega arith)

pub loop-entry-preserved : goal.loop-entry-preserved
loop-entry-preserved c = (
  passing-step c.args.marks.now c.args.row.now c.loop-entry.entry-index c.entry-item.result c.loop-entry-test.true c.entry-item.is
      (sym c.is_marked.ensures ∙ c.if-is_marked.false) c.loop-entry.invariant.0,
  omega arith,
)

pub returns : goal.returns
returns c = λ _. passing-end c.args.marks.now c.args.row.now c.loop-entry.entry-index c.loop-entry-test.false c.loop-entry.invariant.0
