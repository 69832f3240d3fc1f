use Rattle.given_tensors.specs.Lists.{AreSame}
use Rattle.given_tensors.proofs.changes.first_apart.Given as goal

abbrev pub invariant-loop-number : goal.invariant-loop-number
invariant-loop-number g l = AreSame l.number l.sign l.carried l.t
