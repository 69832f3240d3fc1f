use Rattle.std.proofs.Common.{ℕ, ◌<◌, map}
use Rattle.reduced_form.specs.Forms.{row_at}
use Rattle.voigt_table.specs.Weighing.{AreHeld}
use Rattle.voigt_table.proofs.weighing.held_rows.Given as goal

abbrev pub invariant-loop-c : goal.invariant-loop-c
invariant-loop-c l = record {
  held : (k : ℕ) → k < l.c → AreHeld (row_at (map (λ row. row.items) l.rows) k);
}
