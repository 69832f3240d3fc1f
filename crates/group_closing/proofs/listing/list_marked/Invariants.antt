use Rattle.std.proofs.Common.{◌≡◌, ◌*◌, ◌-◌, ◌≤◌}
use Rattle.group_closing.specs.Marks.{marked_below}
use Rattle.group_closing.proofs.listing.list_marked.Given as goal

abbrev pub invariant-loop-matrix : goal.invariant-loop-matrix
invariant-loop-matrix l = (l.matrix ≤ 64) × (l.elements.items ≡ marked_below (2 * l.matrix) l.marks)

abbrev pub decreases-loop-matrix : goal.decreases-loop-matrix
decreases-loop-matrix l = 64 - l.matrix
