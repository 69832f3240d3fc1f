use Rattle.std.proofs.Common.{◌≢◌, ◌<◌, ℕ}
use Rattle.state_marks.specs.Sums.{form_term_at}
use Rattle.state_marks.proofs.rows.is_factor.Given as goal

abbrev pub invariant-loop-place : goal.invariant-loop-place
invariant-loop-place l = (k : ℕ) → k < l.place → (form_term_at l.terms k).free ≢ l.free
