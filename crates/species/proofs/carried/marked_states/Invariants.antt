use Rattle.species.specs.Told.{AreMarked}
use Rattle.species.proofs.carried.marked_states.Given as goal

abbrev pub invariant-loop-place : goal.invariant-loop-place
invariant-loop-place g l = AreMarked g.R.Rank.LEN l.marks l.place l.flags.items
