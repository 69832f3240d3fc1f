use Rattle.magnetic_groups.proofs.Members.{framed_told}
use Rattle.magnetic_groups.proofs.Group.is_framed.Goals as goal

pub returns-in-Some : goal.returns-in-Some
returns-in-Some c =
    framed_told c.args.self.now c.in-Some.turn c.is_all_plain.result c.has.result c.generator.result
    c.is_all_plain.ensures.is c.is_all_plain.ensures.hexagonal c.if-is_all_plain.false c.generator.ensures c.in-Some.is
    c.has.ensures
