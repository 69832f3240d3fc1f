use Rattle.std.proofs.Common.{arith, subst, sym}
use Rattle.group_closing.specs.Joining.{HoldsGroup}
use Rattle.group_closing.proofs.CosetClosing.{kept_group}
use Rattle.group_closing.proofs.closing.join_marks.Goals as goal

pub of-found-requires : goal.of-found-requires
of-found-requires c =
    let l = (kept_group c.args.generators.now c.args.elements.now c.args.marks c.requires.group).closing.counted in
    omega (arith, l)

pub join-requires-clause-group : goal.join-requires-clause-group
join-requires-clause-group c =
    subst (HoldsGroup c.args.generators.now c.args.marks) (sym c.of-found.ensures)
    (kept_group c.args.generators.now c.args.elements.now c.args.marks c.requires.group)

pub returns : goal.returns
returns c = c.join.ensures.kept
