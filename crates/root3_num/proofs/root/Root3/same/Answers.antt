use Rattle.list_laws.proofs.Kit.{◌∙◌, ap, sym, false≢true}
use Rattle.tensor_defs.specs.Number.{Root3}
use Rattle.root3_num.specs.Roots.{value_of_root}
use Rattle.root3_num.proofs.Steps.{roots-same}
use Rattle.root3_num.proofs.root.Root3.same.Goals as goal

pub returns-then-same_fraction : goal.returns-then-same_fraction
returns-then-same_fraction c =
    let r : Root3 = record { a = c.self.inside.a; b = c.self.inside.b } in
    let s : Root3 = record { a = c.other.inside.a; b = c.other.inside.b } in
    let a = c.same_fraction.ensures.0 c.if-same_fraction.true in (
      λ t. ap value_of_root (sym c.self.view_is)
          ∙ (λ i. value_of_root (record { a = a i; b = c.same_fraction-then-same_fraction.ensures.0 t i }))
          ∙ ap value_of_root c.other.view_is,
      λ e.
          let p = roots-same r s c.self.invariant c.other.invariant
          (ap value_of_root c.self.view_is ∙ e ∙ ap value_of_root (sym c.other.view_is)) in
          c.same_fraction-then-same_fraction.ensures.1 p.1,
    )

pub returns-else-same_fraction : goal.returns-else-same_fraction
returns-else-same_fraction c =
    let r : Root3 = record { a = c.self.inside.a; b = c.self.inside.b } in
    let s : Root3 = record { a = c.other.inside.a; b = c.other.inside.b } in (
      λ t. absurd (false≢true (sym c.if-same_fraction.false ∙ t)),
      λ e.
          let p = roots-same r s c.self.invariant c.other.invariant
          (ap value_of_root c.self.view_is ∙ e ∙ ap value_of_root (sym c.other.view_is)) in
          c.same_fraction.ensures.1 p.0,
    )
