-- The elements before the place that stay in the group are marked.
use Rattle.magnetic_groups.specs.Sets.{FitsFrame, IsGroup}
use Rattle.magnetic_groups.proofs.Meeting.{IsMeeting}
use Rattle.magnetic_groups.proofs.Group.conjugate_marks.Given as goal

abbrev pub invariant-loop-place : goal.invariant-loop-place
invariant-loop-place l = (i : IsGroup l.self) (f : FitsFrame l.self l.op) → IsMeeting l.self l.op i f l.place l.marks
