use Rattle.twin_pairs.specs.Classes.{IsLast}
use Rattle.twin_pairs.proofs.Marking.{IsMarking}
use Rattle.twin_pairs.proofs.mark_states.Given as goal

abbrev pub invariant-loop-place : goal.invariant-loop-place
invariant-loop-place l = IsMarking l.states l.element l.place l.marks × IsLast l.marks l.last
