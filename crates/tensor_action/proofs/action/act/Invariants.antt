use Rattle.tensor_rank.specs.Flags.{marks_of}
use Rattle.tensor_action.specs.Acting.{tensor_of}
use Rattle.tensor_action.proofs.CarryLaws.{IsCarrying}
use Rattle.tensor_action.proofs.action.act.Given as goal

abbrev pub invariant-loop-number : goal.invariant-loop-number
invariant-loop-number g l = IsCarrying (marks_of l.flags) l.op g.R.Rank.R (tensor_of l.t) l.number l.carried.items
