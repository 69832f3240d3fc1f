use Rattle.group_closing.proofs.Reaching.{IsReaching}
use Rattle.group_closing.proofs.closing.reach.Given as goal

abbrev pub invariant-loop-generator : goal.invariant-loop-generator
invariant-loop-generator l = IsReaching l.generators l.element l.generator-index l.fn.marks l.fn.found l.marks
    l.found
