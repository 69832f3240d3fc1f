use Rattle.std.proofs.Common.{◌≡◌, ◌<◌, ℕ, false}
use Rattle.state_marks.specs.Told.{mark_at, state_at}
use Rattle.species.proofs.carried.has_mark.Given as goal

abbrev pub invariant-loop-number : goal.invariant-loop-number
invariant-loop-number g l = (c : ℕ) → c < l.number → mark_at (state_at l.marks l.k) c ≡ false
