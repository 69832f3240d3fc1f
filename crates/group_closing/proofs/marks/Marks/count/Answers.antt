use Rattle.std.proofs.Common.{arith, ap, sym, subst, length, ◌∙◌, ◌+◌, ◌≡◌}
use Rattle.std.specs.Int.RustNames.{count_ones}
use Rattle.group_closing.specs.Marks.{unmarked}
use Rattle.group_closing.proofs.Digits.{count_told, marks_length}
use Rattle.group_closing.proofs.marks.Marks.count.Goals as goal

pub returns-clause-is : goal.returns-clause-is
returns-clause-is c =
    subst (λ m. count_ones c.self.inside.unprimed + count_ones c.self.inside.primed + unmarked m ≡ 128) c.self.view_is
    (count_told c.self.inside.unprimed c.self.inside.primed (omega arith) (omega arith))

pub returns-clause-sized : goal.returns-clause-sized
returns-clause-sized c = ap length (sym c.self.view_is) ∙ marks_length c.self.inside.unprimed c.self.inside.primed
