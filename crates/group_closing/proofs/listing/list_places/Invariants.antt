use Rattle.std.proofs.Common.{◌≡◌}
use Rattle.group_closing.specs.Marks.{marked_below}
use Rattle.group_closing.proofs.listing.list_places.Given as goal

abbrev pub invariant-loop-place : goal.invariant-loop-place
invariant-loop-place l = l.elements.items ≡ marked_below l.place l.marks
