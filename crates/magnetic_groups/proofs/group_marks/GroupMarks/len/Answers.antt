use Rattle.std.proofs.Common.{length, arith, ap}
use Rattle.group_closing.proofs.Marked.{marked_count}
use Rattle.magnetic_groups.proofs.group_marks.GroupMarks.len.Goals as goal

pub returns-clause-is : goal.returns-clause-is
returns-clause-is c =
    let e = ap length c.self.view_is in
    let l = marked_count c.self.inside.marks c.count.ensures.sized in
    let n = c.count.ensures.is in
    omega (arith, e, l, n)
