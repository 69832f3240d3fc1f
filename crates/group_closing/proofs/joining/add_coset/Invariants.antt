use Rattle.group_closing.specs.Joining.{IsAdding}
use Rattle.group_closing.proofs.joining.add_coset.Given as goal

abbrev pub invariant-loop-place : goal.invariant-loop-place
invariant-loop-place l = IsAdding l.first l.order l.place l.fn.marks l.fn.found l.marks l.found
