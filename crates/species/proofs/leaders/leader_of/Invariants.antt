use Rattle.std.proofs.Common.{ℕ, ◌<◌, ◌≤◌}
use Rattle.tensor_defs.specs.Jahn.{JahnSymbol}
use Rattle.magnetic_groups.specs.Sets.{In}
use Rattle.species.specs.Species.{AreToldApart}
use Rattle.species.specs.Told.{AreCarried}
use Rattle.species.proofs.leaders.leader_of.Given as goal

abbrev pub invariant-loop-l : goal.invariant-loop-l
invariant-loop-l l =
    (j : JahnSymbol) → AreCarried j (In l.states.sub) l.states.reps l.carried → (m : ℕ) → 1 ≤ m → m < l.l →
    AreToldApart j (In l.states.sub) l.states.reps l.k m
