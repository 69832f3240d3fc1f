use Rattle.std.proofs.Common.{◌≡◌, ℕ, ◌<◌, length, get_or, []}
use Rattle.constraint_rows.specs.OpRows.{op_part}
use Rattle.constraint_rows.proofs.ops.PlainOp.row.Given as goal

abbrev pub invariant-loop-place : goal.invariant-loop-place
invariant-loop-place g l = record {
  len : length l.parts ≡ 6;
  each : (k : ℕ) → k < l.place → get_or l.parts k [] ≡ op_part g.R.Rank.R l.self k;
}
