use Rattle.magnetic_groups.specs.Sets.{generators_of}
use Rattle.magnetic_groups.proofs.Members.{all_plain, rest_hexagonal}
use Rattle.magnetic_groups.proofs.Group.is_all_plain.Goals as goal

pub returns-clause-is : goal.returns-clause-is
returns-clause-is c =
    all_plain (generators_of c.self.inside.generators c.self.inside.elements.items) c.self.inside.elements.items c.args.self.now c.self.inside.marks
    c.plain.result c.is_within.result c.self.invariant c.self.view_is c.is_within.ensures c.plain.ensures

pub returns-clause-hexagonal : goal.returns-clause-hexagonal
returns-clause-hexagonal c = λ q.
    rest_hexagonal (generators_of c.self.inside.generators c.self.inside.elements.items) c.self.inside.elements.items c.args.self.now c.self.inside.marks
    c.is_within.result c.self.invariant c.self.view_is
    (all_plain (generators_of c.self.inside.generators c.self.inside.elements.items) c.self.inside.elements.items c.args.self.now c.self.inside.marks
    c.plain.result c.is_within.result c.self.invariant c.self.view_is c.is_within.ensures c.plain.ensures)
    q
