use Rattle.std.proofs.Common.{◌≡◌, ◌<◌, ℕ}
use Rattle.check_runs.specs.Settings.{component_at}
use Rattle.check_runs.specs.Stops.{given_by_all}
use Rattle.check_runs.proofs.given.has_component.Given as goal

abbrev pub invariant-loop-place : goal.invariant-loop-place
invariant-loop-place l = (i : ℕ) → i < l.place → component_at (given_by_all l.settings) i ≡ l.component → ⊥
