use Rattle.std.proofs.Common.{◌≤◌, take, vec_capacity}
use Rattle.tensor_defs.specs.Tensor.{index_of}
use Rattle.tensor_action.specs.Reaching.{AreParts}
use Rattle.tensor_action.proofs.parts.fill.Given as goal

abbrev pub invariant-loop-place : goal.invariant-loop-place
invariant-loop-place g l =
    record {
      parts : AreParts l.op (take l.place (index_of g.R.Rank.R l.to)) l.parts.items;
      room : g.R.Rank.LEN ≤ vec_capacity l.parts;
      room_longer : g.R.Rank.LEN ≤ vec_capacity l.longer;
    }
