use Rattle.magnetic_groups.proofs.Held.{kept_marked}
use Rattle.magnetic_groups.proofs.closing.of_marks.Goals as goal

pub invariant_of-result : goal.invariant_of-result
invariant_of-result c =
    kept_marked c.in_ok-elements.elements.items c.args.marks c.list_marked.ensures.sized c.in_ok-elements.ensures.listed c.requires
