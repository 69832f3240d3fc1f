use Rattle.tensor_defs.specs.States.{AreStates}
use Rattle.magnetic_groups.specs.Sets.{In, IsGroup, IsWithin}
use Rattle.twin_pairs.proofs.Listings.{IsListed}
use Rattle.twin_pairs.proofs.list_members.Given as goal

abbrev pub invariant-loop-place : goal.invariant-loop-place
invariant-loop-place l = (i : IsGroup l.states.whole) (j : IsGroup l.states.sub) (w : IsWithin l.states.sub l.states.whole) (a : AreStates (In l.states.whole) (In l.states.sub) l.states.reps) → IsListed l.states l.element i j w a l.k l.place l.numbers.items
