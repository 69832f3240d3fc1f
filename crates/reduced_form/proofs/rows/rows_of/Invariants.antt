use Rattle.std.proofs.Common.{◌≡◌, ℕ, ◌<◌, length, map, vec_capacity, vec_len}
use Rattle.sign_moves.specs.Classes.{entry_at}
use Rattle.reduced_form.specs.Forms.{row_at, row_of}
use Rattle.reduced_form.proofs.rows.rows_of.Given as goal

abbrev pub invariant-loop-c : goal.invariant-loop-c
invariant-loop-c g l = record {
  len : length l.rows.items ≡ l.c;
  long : vec_len l.rows ≡ l.c;
  capacity : vec_capacity l.rows ≡ g.R.Rank.LEN;
  rows : (k : ℕ) → k < l.c → row_at (map (λ row. row.items) l.rows.items) k ≡ row_of (entry_at l.classes k) l.places;
}
