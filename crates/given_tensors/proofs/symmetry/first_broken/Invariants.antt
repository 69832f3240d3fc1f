use Rattle.std.proofs.Common.{ℕ, ◌<◌}
use Rattle.tensor_defs.specs.Jahn.{JahnSymbol}
use Rattle.tensor_rank.specs.Shapes.{IsShapeOf}
use Rattle.tensor_action.specs.Acting.{tensor_of}
use Rattle.given_tensors.specs.Verdicts.{Follows}
use Rattle.given_tensors.proofs.symmetry.first_broken.Given as goal

abbrev pub invariant-loop-number : goal.invariant-loop-number
invariant-loop-number g l =
    (c : ℕ) → c < l.number → (j : JahnSymbol) → IsShapeOf j g.R.Rank.R l.shape → Follows j g.R.Rank.R (tensor_of l.t) c
