use Rattle.std.proofs.Common.{◌≡◌, ℕ, ◌<◌}
use Rattle.reduced_form.specs.Forms.{row_at}
use Rattle.reduced_form.proofs.comparing.same_rows.Given as goal

abbrev pub invariant-loop-number : goal.invariant-loop-number
invariant-loop-number g l = record {
  same : (k : ℕ) → k < l.number → row_at l.one.rows k ≡ row_at l.other.rows k;
}
