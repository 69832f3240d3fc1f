use Rattle.coset_states.specs.Numbering.{IsNumbered}
use Rattle.coset_states.proofs.number_coset.Given as goal

abbrev pub invariant-loop-place : goal.invariant-loop-place
invariant-loop-place l = IsNumbered l.sub l.first l.number l.place l.fn.numbers l.numbers
