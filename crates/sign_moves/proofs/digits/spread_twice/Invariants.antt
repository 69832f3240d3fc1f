use Rattle.std.proofs.Common.{◌≡◌, ◌*◌, vec_capacity, vec_len}
use Rattle.sign_moves.specs.Prelude.{longer_step, IsSpread}
use Rattle.sign_moves.proofs.digits.spread_twice.Given as goal

abbrev pub invariant-loop-j : goal.invariant-loop-j
invariant-loop-j l = record {
  spread : IsSpread (longer_step l.row l.first) (3 * l.j) l.second l.longer.items;
  long : vec_len l.longer ≡ 9 * l.j;
  capacity : vec_capacity l.longer ≡ vec_capacity l.fn.longer;
}
