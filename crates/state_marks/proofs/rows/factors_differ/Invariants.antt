use Rattle.std.proofs.Common.{◌≡◌, ◌<◌, ℕ}
use Rattle.tensor_defs.specs.Number.{value_of}
use Rattle.state_marks.specs.Sums.{form_term_at, sum_at}
use Rattle.state_marks.proofs.rows.factors_differ.Given as goal

abbrev pub invariant-loop-place : goal.invariant-loop-place
invariant-loop-place l =
    (k : ℕ) → k < l.place → sum_at l.sums (form_term_at l.terms k).free ≡ value_of (form_term_at l.terms k).factor
