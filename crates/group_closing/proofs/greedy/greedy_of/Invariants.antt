use Rattle.group_closing.proofs.Taking.{IsTaking}
use Rattle.group_closing.proofs.greedy.greedy_of.Given as goal

abbrev pub invariant-loop-element : goal.invariant-loop-element
invariant-loop-element l = IsTaking l.elements l.element-index l.span.taken l.span.marks l.span.found
