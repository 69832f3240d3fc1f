use Rattle.line_runs.proofs.Cuts.{no_break_more}
use Rattle.line_runs.proofs.buffer.first_break.Goals as goal

pub loop-i-preserved : goal.loop-i-preserved
loop-i-preserved c = no_break_more c.args.bytes.now c.loop-i.i c.loop-i-test.true c.if-bytes-i-eq10.false c.loop-i.invariant
