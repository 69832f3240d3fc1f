use Rattle.std.proofs.Common.{◌∙◌, ap, sym}
use Rattle.magnetic_groups.specs.Sets.{generators_of}
use Rattle.magnetic_groups.proofs.Held.{generators_told}
use Rattle.magnetic_groups.proofs.Group.generators.Goals as goal

pub returns-in-Some-clause-elements : goal.returns-in-Some-clause-elements
returns-in-Some-clause-elements c =
    (generators_told c.self.inside.generators c.as_slice.result.now c.self.inside.elements.items c.args.self.now c.self.inside.marks c.self.invariant c.self.view_is
    (c.as_slice.ensures.value ∙ sym (ap (λ o. generators_of o c.self.inside.elements.items) c.in-Some.is))).0

pub returns-in-Some-clause-spanned : goal.returns-in-Some-clause-spanned
returns-in-Some-clause-spanned c =
    (generators_told c.self.inside.generators c.as_slice.result.now c.self.inside.elements.items c.args.self.now c.self.inside.marks c.self.invariant c.self.view_is
    (c.as_slice.ensures.value ∙ sym (ap (λ o. generators_of o c.self.inside.elements.items) c.in-Some.is))).1

pub returns-in-None-clause-spanned : goal.returns-in-None-clause-spanned
returns-in-None-clause-spanned c =
    (generators_told c.self.inside.generators c.deref.result.now c.self.inside.elements.items c.args.self.now c.self.inside.marks c.self.invariant c.self.view_is
    (c.deref.ensures.value ∙ sym (ap (λ o. generators_of o c.self.inside.elements.items) c.in-None.is))).1
