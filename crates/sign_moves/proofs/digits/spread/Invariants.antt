use Rattle.std.proofs.Common.{◌≡◌, ◌*◌, vec_capacity, vec_len}
use Rattle.sign_moves.specs.Prelude.{step_at, IsSpread}
use Rattle.sign_moves.proofs.digits.spread.Given as goal

abbrev pub invariant-loop-j : goal.invariant-loop-j
invariant-loop-j l = record {
  spread : IsSpread (step_at l.row) l.j l.part l.longer.items;
  long : vec_len l.longer ≡ 3 * l.j;
  capacity : vec_capacity l.longer ≡ vec_capacity l.fn.longer;
}
