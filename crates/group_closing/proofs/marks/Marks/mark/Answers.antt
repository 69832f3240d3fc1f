use Rattle.std.proofs.Common.{true, arith, ◌∙◌}
use Rattle.std.specs.Prelude.{set}
use Rattle.group_closing.proofs.Digits.{more_primed, more_unprimed}
use Rattle.group_closing.proofs.marks.Marks.mark.Goals as goal

pub returns-then-place-eq1 : goal.returns-then-place-eq1
returns-then-place-eq1 c =
    more_primed c.self.inside.unprimed c.self.inside.primed c.place-place.result c.place-place.ensures.below c.if-place-eq1.true
    ∙ (λ i. set (c.self.view_is i) (c.place-place.ensures.is i) true)

pub returns-else-place-eq1 : goal.returns-else-place-eq1
returns-else-place-eq1 c =
    let n = c.if-place-eq1.false in
    more_unprimed c.self.inside.unprimed c.self.inside.primed c.place-place.result c.place-place.ensures.below (omega arith)
    ∙ (λ i. set (c.self.view_is i) (c.place-place.ensures.is i) true)
