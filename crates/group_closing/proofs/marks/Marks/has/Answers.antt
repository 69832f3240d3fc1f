use Rattle.std.proofs.Common.{◌/◌, ◌^◌, ◌<◌, ap, arith, ◌∙◌, subst}
use Rattle.std.specs.Prelude.{bit_and, nat_eq}
use Rattle.op_matrix.specs.Table.{nth_operation}
use Rattle.group_closing.specs.Marks.{mark_at}
use Rattle.group_closing.proofs.Digits.{has_primed, has_unprimed}
use Rattle.group_closing.proofs.marks.Marks.has.Goals.{then-place-eq1, else-place-eq1}
use Rattle.group_closing.proofs.marks.Marks.has.Goals as goal

pub returns-clause-is : goal.returns-clause-is
returns-clause-is c =
    let u = c.self.inside.unprimed in
    let p = c.self.inside.primed in
    let k = c.place-place.result in
    let h = c.place-place.ensures.below in
    elim c.if-place-eq1.branch [
      | then-place-eq1 w ↦
          ap (λ x. nat_eq (bit_and (x / 2 ^ (k / 2)) 1) 1) w.digits-is ∙ has_primed u p k h w.if-place-eq1.true
          ∙ ap (λ m. mark_at m k) c.self.view_is ∙ ap (mark_at c.args.self.now) c.place-place.ensures.is
      | else-place-eq1 w ↦
          ap (λ x. nat_eq (bit_and (x / 2 ^ (k / 2)) 1) 1) w.digits-is ∙ has_unprimed u p k h (let n = w.if-place-eq1.false in omega arith)
          ∙ ap (λ m. mark_at m k) c.self.view_is ∙ ap (mark_at c.args.self.now) c.place-place.ensures.is
    ]

pub returns-clause-below : goal.returns-clause-below
returns-clause-below c = subst (λ k. k < 128) c.place-place.ensures.is c.place-place.ensures.below

pub returns-clause-at : goal.returns-clause-at
returns-clause-at c = c.place-place.ensures.at ∙ ap nth_operation c.place-place.ensures.is
