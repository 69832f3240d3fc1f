use Rattle.std.proofs.Common.{take}
use Rattle.line_runs.specs.Reads.{HasNoBreak}
use Rattle.line_runs.proofs.buffer.first_break.Given as goal

abbrev pub invariant-loop-i : goal.invariant-loop-i
invariant-loop-i l = HasNoBreak (take l.i l.bytes)
