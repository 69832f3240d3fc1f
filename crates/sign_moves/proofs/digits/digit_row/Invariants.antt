use Rattle.std.proofs.Common.{◌-◌, ◌^◌, ◌≤◌, length, vec_capacity}
use Rattle.sign_moves.specs.Prelude.{IsDigitRow}
use Rattle.sign_moves.proofs.digits.digit_row.Given as goal

abbrev pub invariant-loop-place : goal.invariant-loop-place
invariant-loop-place l = record {
  row : IsDigitRow l.parts l.fn.whole l.place l.row.items;
  within : l.place ≤ length l.parts;
  room : 3 ^ length l.parts ≤ vec_capacity l.row;
  room_longer : 3 ^ length l.parts ≤ vec_capacity l.longer;
}

abbrev pub decreases-loop-place : goal.decreases-loop-place
decreases-loop-place l = length l.parts - l.place
