use Rattle.std.proofs.Common.{◌≡◌, ◌≤◌, ◌*◌, drop, vec_capacity, vec_len}
use Rattle.tensor_defs.specs.Prelude.{Index}
use Rattle.op_matrix.specs.View.{axis}
use Rattle.tensor_action.specs.Reaching.{AreParts}
use Rattle.tensor_action.proofs.Reach.{IsExtending}
use Rattle.tensor_action.proofs.parts.with_index.Given as goal

abbrev pub invariant-loop-place : goal.invariant-loop-place
invariant-loop-place l = record {
  extending : (is : Index) → AreParts l.op is l.parts → IsExtending l.op (axis l.row) is (drop l.place l.parts) l.longer.items;
  len : vec_len l.longer ≤ 3 * l.place;
  capacity : vec_capacity l.longer ≡ vec_capacity l.fn.longer;
}
