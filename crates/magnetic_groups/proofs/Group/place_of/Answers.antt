use Rattle.std.proofs.Common.{arith, sym, ◌∙◌}
use Rattle.magnetic_groups.specs.Sets.{generators_of}
use Rattle.magnetic_groups.proofs.Members.{found_at}
use Rattle.magnetic_groups.proofs.Group.place_of.Goals as goal

pub returns-then-eq : goal.returns-then-eq
returns-then-eq c =
    found_at (generators_of c.self.inside.generators c.self.inside.elements.items) c.self.inside.elements.items c.args.self.now c.self.inside.marks
    c.loop-place.place c.index.result.now c.args.op.now c.self.invariant c.self.view_is (omega arith) c.index.ensures
    (c.has.ensures.0 c.if-not-has.false) (sym c.eq.ensures ∙ c.if-eq.true)
