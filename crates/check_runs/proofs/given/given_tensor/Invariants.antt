use Rattle.check_runs.specs.Stops.{given_by_all}
use Rattle.check_runs.proofs.Tensors.{AreGiven}
use Rattle.check_runs.proofs.given.given_tensor.Given as goal

abbrev pub invariant-loop-place : goal.invariant-loop-place
invariant-loop-place g l = AreGiven (given_by_all l.settings) g.R.Rank.LEN l.place l.t.items
