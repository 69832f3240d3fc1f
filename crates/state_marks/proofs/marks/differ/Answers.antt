use Rattle.std.proofs.Common.{◌∙◌, inl, inr}
use Rattle.magnetic_groups.specs.Sets.{In}
use Rattle.reduced_form.specs.Forms.{form_table}
use Rattle.reduced_form.proofs.ToldLaws.{err_same}
use Rattle.tensor_rank.specs.Flags.{marks_of}
use Rattle.state_marks.proofs.MarkLaws.{a_row_grows, states_tell}
use Rattle.state_marks.proofs.marks.differ.Goals as goal

pub returns-in_err-form-clause-grows : goal.returns-in_err-form-clause-grows
returns-in_err-form-clause-grows g c =
    err_same c.from_residual.result c.in_err-form.field-0.0 _ c.from_residual.ensures.1
    (λ p. λ j shape. inl (c.in_err-form.ensures.grows p j shape))

pub returns-in_err-later-clause-grows : goal.returns-in_err-later-clause-grows
returns-in_err-later-clause-grows g c =
    let r = g.R.Rank.R in
    let s = c.args.states.now in
    err_same c.from_residual-in_err-later.result c.in_err-later.field-0.0 _ c.from_residual-in_err-later.ensures.1
    (λ p. λ j shape. inr (a_row_grows j (In s.whole) (In s.sub) r (marks_of c.flags.result) s.reps (form_table r c.in_ok-form.form)
    c.count-count.ensures.states shape.rank_is (c.flags.ensures ∙ shape.marks_are) (c.in_ok-form.ensures.fits j shape)
    (c.in_err-later.ensures.grows p)))

pub returns-in_err-later-clause-plain : goal.returns-in_err-later-clause-plain
returns-in_err-later-clause-plain g c =
    err_same c.from_residual-in_err-later.result c.in_err-later.field-0.0 _ c.from_residual-in_err-later.ensures.1
    (λ p. λ plain. c.in_err-later.ensures.units p (c.in_ok-form.ensures.units plain))

pub returns-clause-ok : goal.returns-clause-ok
returns-clause-ok g c = λ j shape.
    let r = g.R.Rank.R in
    let s = c.args.states.now in
    states_tell j (In s.whole) s.sub r (marks_of c.flags.result) s.reps c.in_ok-form.form c.in_ok-later.later.items
    c.count-count.ensures.groups.1 c.count-count.ensures.states shape.rank_is (c.flags.ensures ∙ shape.marks_are)
    (c.in_ok-form.ensures.fits j shape) (c.in_ok-form.ensures.calm j shape) c.in_ok-later.ensures.ok
