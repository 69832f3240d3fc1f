use Rattle.list_laws.proofs.Kit.{◌≡◌, subst, bit_at}
use Rattle.std.specs.Prelude.{◌↔◌}
use Rattle.magnetic_groups.specs.Sets.{HasForm, In}
use Rattle.magnetic_groups.proofs.MarkedGroups.{marked_form}
use Rattle.magnetic_groups.proofs.group_marks.GroupMarks.matrices.Goals as goal

pub returns : goal.returns
returns c = λ n h.
    subst (λ xs. (bit_at c.matrices.result n ≡ 1) ↔ HasForm (In xs) n) c.self.view_is
    (marked_form c.self.inside.marks n (bit_at c.matrices.result n ≡ 1) h (c.matrices.ensures n h))
