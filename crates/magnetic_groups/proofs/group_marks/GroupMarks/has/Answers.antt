use Rattle.std.proofs.Common.{subst}
use Rattle.std.specs.Prelude.{Contains, IsTrue, ◌↔◌}
use Rattle.magnetic_groups.proofs.MarkedGroups.{marked_has}
use Rattle.magnetic_groups.proofs.group_marks.GroupMarks.has.Goals as goal

pub returns : goal.returns
returns c = subst (λ xs. IsTrue c.has.result ↔ Contains xs c.args.op.now) c.self.view_is
    (marked_has c.self.inside.marks c.args.op.now c.has.result c.has.ensures.is c.has.ensures.below c.has.ensures.at)
