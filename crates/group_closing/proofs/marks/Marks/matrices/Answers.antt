use Rattle.list_laws.proofs.Kit.{◌≡◌, ◌+◌, ◌*◌, true, ◌⊎◌, subst, bit_at}
use Rattle.std.specs.Prelude.{◌↔◌, bit_or}
use Rattle.group_closing.specs.Marks.{mark_at}
use Rattle.group_closing.proofs.Digits.{either_told}
use Rattle.group_closing.proofs.marks.Marks.matrices.Goals as goal

pub returns : goal.returns
returns c = λ n h.
    subst (λ m. (bit_at (bit_or c.self.inside.unprimed c.self.inside.primed) n ≡ 1) ↔ ((mark_at m (2 * n) ≡ true) ⊎ (mark_at m (2 * n + 1) ≡ true))) c.self.view_is
    (either_told c.self.inside.unprimed c.self.inside.primed n h)
