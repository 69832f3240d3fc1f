use Rattle.std.proofs.Common.{◌≡◌, ℕ, ◌<◌, length}
use Rattle.sign_moves.specs.Classes.{entry_at}
use Rattle.constraint_rows.specs.Marking.{IsTurnedEntry}
use Rattle.constraint_rows.proofs.axis.marked_table.Given as goal

abbrev pub invariant-loop-number : goal.invariant-loop-number
invariant-loop-number g l = record {
  len : length l.marked.items ≡ l.number;
  each : (k : ℕ) → k < l.number → IsTurnedEntry g.R.Rank.R l.ops.items (entry_at l.table k) (entry_at l.marked.items k);
}
