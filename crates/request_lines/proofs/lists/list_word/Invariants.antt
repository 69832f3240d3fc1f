use Rattle.request_lines.proofs.WordLists.{Counted}
use Rattle.request_lines.proofs.lists.list_word.Given as goal

abbrev pub invariant-loop-place : goal.invariant-loop-place
invariant-loop-place l = Counted l.line l.fn.list l.start l.end l._place
