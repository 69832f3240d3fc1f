use Rattle.std.proofs.Common.{◌≡◌, ℕ, ◌<◌, length, map, vec_capacity, vec_len}
use Rattle.constraint_rows.specs.Classes.{class_at}
use Rattle.reduced_form.specs.Prelude.{row_at, class_row}
use Rattle.reduced_form.proofs.eliminating.told_rows.Given as goal

abbrev pub invariant-loop-c : goal.invariant-loop-c
invariant-loop-c g l = record {
  len : length l.rows.items ≡ l.c;
  long : vec_len l.rows ≡ l.c;
  capacity : vec_capacity l.rows ≡ g.R.Rank.LEN;
  rows : (k : ℕ) → k < l.c → row_at (map (λ row. row.items) l.rows.items) k ≡ class_row l.told.tellers.items l.told.numbers.items l.told.sums.items l.places (class_at l.classes k);
}
