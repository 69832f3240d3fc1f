use Rattle.std.proofs.Common.{◌≡◌, ℕ, ◌<◌, length, get_or}
use Rattle.tensor_defs.specs.Operation.{identity}
use Rattle.tensor_rank.specs.Flags.{marks_of}
use Rattle.constraint_rows.specs.PlainOps.{StandsFor, op_at}
use Rattle.constraint_rows.proofs.classing.plain_ops.Given as goal

abbrev pub invariant-loop-place : goal.invariant-loop-place
invariant-loop-place l = record {
  len : length l.ops.items ≡ l.place;
  each : (k : ℕ) → k < l.place → StandsFor (marks_of l.flags) (get_or l.operations k identity) (op_at l.ops.items k);
}
