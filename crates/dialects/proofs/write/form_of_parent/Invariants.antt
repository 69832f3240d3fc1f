use Rattle.std.proofs.Common.{◌≢◌, ℕ, ◌<◌}
use Rattle.dialects.specs.LongTexts.{form_at}
use Rattle.dialects.proofs.write.form_of_parent.Given as goal

abbrev pub invariant-loop-place : goal.invariant-loop-place
invariant-loop-place l = (j : ℕ) → j < l.place → (form_at j).parent ≢ l.number
