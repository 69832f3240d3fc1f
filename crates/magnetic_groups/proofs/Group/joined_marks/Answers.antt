use Rattle.std.proofs.Common.{◌++◌, ◌∷◌, [], refl, subst, sym}
use Rattle.magnetic_groups.specs.Sets.{IsKept}
use Rattle.magnetic_groups.proofs.Listings.{joined_parts, joined_told, kept_listing}
use Rattle.magnetic_groups.proofs.Group.joined_marks.Goals as goal

pub join_marks-marks-requires-clause-frame : goal.join_marks-marks-requires-clause-frame
join_marks-marks-requires-clause-frame c =
    (joined_parts c.self.inside.generators c.generators.result.now c.self.inside.elements.items c.args.self.now c.self.inside.marks c.args.op.now
    c.self.invariant c.self.view_is c.generators.ensures.elements c.generators.ensures.spanned c.requires).1

pub join_marks-marks-requires-clause-group : goal.join_marks-marks-requires-clause-group
join_marks-marks-requires-clause-group c =
    subst (IsKept c.generators.result.now c.deref.result.now) (sym c.copied.ensures)
    (subst (λ xs. IsKept c.generators.result.now xs c.self.inside.marks) (sym c.deref.ensures.value)
    (joined_parts c.self.inside.generators c.generators.result.now c.self.inside.elements.items c.args.self.now c.self.inside.marks c.args.op.now
    c.self.invariant c.self.view_is c.generators.ensures.elements c.generators.ensures.spanned c.requires).0)

pub new-requires : goal.new-requires
new-requires c = c.join_marks-marks.ensures.group

pub returns : goal.returns
returns c =
    let all = c.generators.result.now ++ c.args.op.now ∷ [] in
    joined_told c.generators.result.now c.self.inside.elements.items c.args.self.now all c.self.inside.marks c.args.op.now
    (joined_parts c.self.inside.generators c.generators.result.now c.self.inside.elements.items c.args.self.now c.self.inside.marks c.args.op.now
    c.self.invariant c.self.view_is c.generators.ensures.elements c.generators.ensures.spanned c.requires).0
    c.self.view_is refl c.requires c.new.result
    (kept_listing all c.new.result c.join_marks-marks.result
    (subst (λ xs. IsKept all xs c.join_marks-marks.result) (sym c.new.ensures) c.join_marks-marks.ensures))
