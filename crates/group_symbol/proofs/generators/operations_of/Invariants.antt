use Rattle.group_symbol.proofs.Turned.{AreFound}
use Rattle.group_symbol.proofs.generators.operations_of.Given as goal

abbrev pub invariant-loop-kind : goal.invariant-loop-kind
invariant-loop-kind l = AreFound l.setting l.primes l.operators l.found l.kind-index l.left
