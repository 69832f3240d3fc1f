use Rattle.std.proofs.Common.{List, subst}
use Rattle.tensor_defs.specs.Prelude.{Grows, AllOf, IsPlain, Operation, index_before, Fits}
use Rattle.magnetic_groups.specs.Sets.{In}
use Rattle.tensor_rank.specs.Orders.{Ordering, before_of}
use Rattle.reduced_form.specs.Forms.{HasUnitRows, form_table}
use Rattle.state_marks.proofs.MarkLaws.{fault_told}
use Rattle.state_marks.proofs.marks.first_form.Goals as goal

pub returns-in_err-form-clause-grows : goal.returns-in_err-form-clause-grows
returns-in_err-form-clause-grows g c =
    fault_told c.from_residual.result c.in_err-form.field-0.0 _ c.from_residual.ensures.1 (λ p. λ j shape.
    subst (λ (xs : List Operation). Grows j (In xs) index_before) c.sub.ensures
    (subst (λ (o : Ordering). Grows j (In c.sub.result.now) (before_of o)) c.index.ensures (c.in_err-form.ensures.grows p j shape)))

pub returns-in_err-form-clause-plain : goal.returns-in_err-form-clause-plain
returns-in_err-form-clause-plain g c =
    fault_told c.from_residual.result c.in_err-form.field-0.0 _ c.from_residual.ensures.1 (λ p.
    subst (λ (xs : List Operation). ¬ AllOf (In xs) IsPlain) c.sub.ensures (c.in_err-form.ensures.plain p))

pub returns-clause-fits : goal.returns-clause-fits
returns-clause-fits g c = λ j shape.
    let a = form_table g.R.Rank.R c.in_ok-form.form in
    subst (λ (xs : List Operation). Fits j (In xs) index_before a) c.sub.ensures
    (subst (λ (o : Ordering). Fits j (In c.sub.result.now) (before_of o) a) c.index.ensures (c.in_ok-form.ensures.fits j shape))

pub returns-clause-calm : goal.returns-clause-calm
returns-clause-calm g c = λ j shape.
    subst (λ (xs : List Operation). Grows j (In xs) index_before → ⊥) c.sub.ensures
    (subst (λ (o : Ordering). Grows j (In c.sub.result.now) (before_of o) → ⊥) c.index.ensures (c.in_ok-form.ensures.calm j shape))

pub returns-clause-units : goal.returns-clause-units
returns-clause-units g c =
    subst (λ (xs : List Operation). AllOf (In xs) IsPlain → HasUnitRows g.R.Rank.LEN c.in_ok-form.form) c.sub.ensures
    c.in_ok-form.ensures.units
