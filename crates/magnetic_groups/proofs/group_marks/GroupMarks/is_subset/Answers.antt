use Rattle.std.proofs.Common.{subst}
use Rattle.std.specs.Prelude.{IsTrue, ◌↔◌}
use Rattle.magnetic_groups.specs.Prelude.{marked_below, IsWithin}
use Rattle.magnetic_groups.proofs.MarkedGroups.{marked_within}
use Rattle.magnetic_groups.proofs.group_marks.GroupMarks.is_subset.Goals as goal

pub returns : goal.returns
returns c = subst (λ xs. IsTrue c.is_within.result ↔ IsWithin xs c.args.other.now) c.self.view_is
    (subst (λ ys. IsTrue c.is_within.result ↔ IsWithin (marked_below 128 c.self.inside.marks) ys) c.other.view_is
    (marked_within c.self.inside.marks c.other.inside.marks c.is_within.result c.is_within.ensures))
