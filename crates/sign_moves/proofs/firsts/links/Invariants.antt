use Rattle.std.proofs.Common.{vec_capacity, vec_len, ◌≡◌, ℕ, ◌<◌, length}
use Rattle.sign_moves.specs.Prelude.{entry_at, link_of}
use Rattle.sign_moves.proofs.firsts.links.Given as goal

abbrev pub invariant-loop-c : goal.invariant-loop-c
invariant-loop-c g l = record {
  len : length l.links.items ≡ l.c;
  each : (k : ℕ) → k < l.c → entry_at l.links.items k ≡ link_of l.classes l.best.items k;
  long : vec_len l.links ≡ l.c;
  capacity : vec_capacity l.links ≡ length l.classes;
}
