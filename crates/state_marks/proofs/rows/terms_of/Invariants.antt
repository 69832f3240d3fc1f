use Rattle.state_marks.specs.Sums.{ListsSums}
use Rattle.state_marks.proofs.rows.terms_of.Given as goal

abbrev pub invariant-loop-place : goal.invariant-loop-place
invariant-loop-place l = ListsSums l.sums l.place l.terms.items
