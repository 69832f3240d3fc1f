use Rattle.root3_num.specs.Roots.{value_of_root}
use Rattle.state_marks.proofs.Parts.{IsAdding}
use Rattle.state_marks.proofs.adding.add_terms.Given as goal

abbrev pub invariant-loop-place : goal.invariant-loop-place
invariant-loop-place l = IsAdding l.fn.sums (value_of_root l.factor) l.terms l.place l.sums
