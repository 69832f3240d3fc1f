use Rattle.std.proofs.Common.{rules, ◌≡◌, ◌≤◌, length, subst, sym}
use Rattle.magnetic_groups.specs.Sets.{generators_of}
use Rattle.magnetic_groups.proofs.Members.{kept_length}
use Rattle.magnetic_groups.proofs.Group.len.Goals as goal

pub returns-clause-few : goal.returns-clause-few
returns-clause-few c =
    let e : c.len.result ≡ length c.self.inside.elements.items = search rules in
    subst (λ n. n ≤ 128) (sym e)
    (kept_length (generators_of c.self.inside.generators c.self.inside.elements.items) c.self.inside.elements.items c.self.inside.marks c.self.invariant)
