use Rattle.list_laws.proofs.Kit.{◌∙◌, ap, sym, false≢true}
use Rattle.tensor_defs.specs.Number.{Root3}
use Rattle.root3_num.specs.Roots.{value_of_root}
use Rattle.root3_num.proofs.Steps.{root-zero, zero-root}
use Rattle.root3_num.proofs.root.Root3.is_zero.Goals as goal

pub returns-then-is_zero : goal.returns-then-is_zero
returns-then-is_zero c =
    let r : Root3 = record { a = c.self.inside.a; b = c.self.inside.b } in (
      λ t. ap value_of_root (sym c.self.view_is) ∙ zero-root r (c.is_zero.ensures.0 c.if-is_zero.true) (c.is_zero-then-is_zero.ensures.0 t),
      λ e. let z = root-zero r c.self.invariant (ap value_of_root c.self.view_is ∙ e) in c.is_zero-then-is_zero.ensures.1 z.1,
    )

pub returns-else-is_zero : goal.returns-else-is_zero
returns-else-is_zero c =
    let r : Root3 = record { a = c.self.inside.a; b = c.self.inside.b } in (
      λ t. absurd (false≢true (sym c.if-is_zero.false ∙ t)),
      λ e. let z = root-zero r c.self.invariant (ap value_of_root c.self.view_is ∙ e) in c.is_zero.ensures.1 z.0,
    )
