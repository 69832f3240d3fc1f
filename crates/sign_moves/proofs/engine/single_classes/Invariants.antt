use Rattle.std.proofs.Common.{vec_capacity, vec_len, ◌≡◌, ℕ, ◌<◌, length, false}
use Rattle.tensor_defs.specs.declared.Sign.TheVariants.{Plus}
use Rattle.sign_moves.specs.Classes.{entry_at}
use Rattle.sign_moves.proofs.engine.single_classes.Given as goal

abbrev pub invariant-loop-c : goal.invariant-loop-c
invariant-loop-c g l = record {
  len : length l.table.items ≡ l.c;
  each : (k : ℕ) → k < l.c → entry_at l.table.items k ≡ record { first = k; sign = Plus; vanishes = false };
  long : vec_len l.table ≡ l.c;
  capacity : vec_capacity l.table ≡ g.M.Moves.size l.moves;
}
