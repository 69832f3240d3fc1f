use Rattle.std.proofs.Common.{vec_capacity, vec_len, ◌≡◌, ℕ, ◌<◌, length, get_or}
use Rattle.sign_moves.proofs.firsts.own_best.Given as goal

abbrev pub invariant-loop-c : goal.invariant-loop-c
invariant-loop-c l = record {
  len : length l.best.items ≡ l.c;
  own : (k : ℕ) → k < l.c → get_or l.best.items k 0 ≡ k;
  long : vec_len l.best ≡ l.c;
  capacity : vec_capacity l.best ≡ l.size;
}
