use Rattle.tensor_rank.specs.Flags.{marks_of}
use Rattle.tensor_action.specs.Acting.{tensor_of}
use Rattle.given_tensors.specs.Carried.{AreCarried, even_marks}
use Rattle.given_tensors.proofs.Judged.{IsCheckedTo}
use Rattle.given_tensors.proofs.verdict.check.Given as goal

abbrev pub invariant-loop-place : goal.invariant-loop-place
invariant-loop-place g l =
    IsCheckedTo (marks_of l.flags) g.R.Rank.R (tensor_of l.t) l.group l.place
    × AreCarried (even_marks g.R.Rank.R) g.R.Rank.R g.R.Rank.LEN l.t l.carried.items
