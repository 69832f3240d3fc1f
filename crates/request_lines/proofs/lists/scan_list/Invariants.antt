use Rattle.request_lines.specs.Words.{words_behind}
use Rattle.request_lines.proofs.WordLists.{Gone}
use Rattle.request_lines.proofs.lists.scan_list.Given as goal

abbrev pub invariant-loop-left : goal.invariant-loop-left
invariant-loop-left l = Gone (words_behind l.fn.format) l.text l.start l.left

abbrev pub decreases-loop-left : goal.decreases-loop-left
decreases-loop-left l = l.left
