use Rattle.std.proofs.Common.{◌≡◌, ◌+◌, ◌<◌, ℕ, get_or, length}
use Rattle.tensor_defs.specs.Jahn.{JahnSymbol}
use Rattle.magnetic_groups.specs.Sets.{In}
use Rattle.species.specs.Species.{IsLeader}
use Rattle.species.specs.Told.{AreCarried}
use Rattle.species.proofs.leaders.leaders_of.Given as goal

abbrev pub invariant-loop-place : goal.invariant-loop-place
invariant-loop-place l =
    record {
      len : length l.numbers.items ≡ l.place;
      each : (j : JahnSymbol) → AreCarried j (In l.states.sub) l.states.reps l.carried → (k : ℕ) → k < l.place →
          IsLeader j (In l.states.sub) l.states.reps (k + 1) (get_or l.numbers.items k 0);
    }
