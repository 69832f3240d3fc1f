use Rattle.std.proofs.Common.{ℕ, ◌<◌, get_or}
use Rattle.exact_frac.specs.Held.{IsHeld}
use Rattle.voigt_table.proofs.TableLaws.{no_term}
use Rattle.voigt_table.proofs.weighing.held_row.Given as goal

abbrev pub invariant-loop-place : goal.invariant-loop-place
invariant-loop-place l = record {
  held : (k : ℕ) → k < l.place → IsHeld (get_or l.row k no_term).factor;
}
