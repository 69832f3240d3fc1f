use Rattle.std.proofs.Common.{◌≡◌, length}
use Rattle.twin_pairs.specs.Classes.{AreAdded}
use Rattle.twin_pairs.proofs.mark_members.Given as goal

abbrev pub invariant-loop-place : goal.invariant-loop-place
invariant-loop-place l = record {
  sized : length l.marks ≡ 129;
  added : AreAdded l.members l.place l.fn.marks l.marks;
}
