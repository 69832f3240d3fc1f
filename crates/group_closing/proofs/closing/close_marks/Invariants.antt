use Rattle.std.proofs.Common.{take}
use Rattle.group_closing.specs.Joining.{HoldsGroup}
use Rattle.group_closing.proofs.closing.close_marks.Given as goal

abbrev pub invariant-loop-place : goal.invariant-loop-place
invariant-loop-place l = HoldsGroup (take l.place l.generators) l.marks l.found
