use Rattle.std.proofs.Common.{drop}
use Rattle.tensor_defs.specs.Tensor.{index_of}
use Rattle.tensor_rank.specs.Flags.{marks_of}
use Rattle.tensor_action.specs.Acting.{tensor_of}
use Rattle.tensor_action.proofs.Walks.{IsWalking}
use Rattle.tensor_action.proofs.action.component_of.Given as goal

abbrev pub invariant-loop-place : goal.invariant-loop-place
invariant-loop-place g l =
    IsWalking (marks_of l.fn.flags) l.fn.op g.R.Rank.R (index_of g.R.Rank.R l.fn.to) 1 (λ _. tensor_of l.t) (drop l.place l.parts) (λ _. l.sum)
