use Rattle.std.proofs.Common.{◌≡◌, ◌≤◌, ◌-◌, ◌+◌, ◌∙◌, ap, length, subst, arith}
use Rattle.std.specs.Prelude.{slice_get}
use Rattle.magnetic_groups.specs.Sets.{In}
use Rattle.reduced_form.specs.Forms.{form_table}
use Rattle.reduced_form.proofs.ToldLaws.{err_same}
use Rattle.tensor_rank.specs.Flags.{marks_of}
use Rattle.state_marks.specs.Told.{AreTold}
use Rattle.state_marks.proofs.MarkLaws.{some_state}
use Rattle.state_marks.proofs.StateLaws.{told-more, told-start}
use Rattle.state_marks.proofs.marks.later_states.Goals as goal

pub loop-place-init : goal.loop-place-init
loop-place-init g c =
    let r = g.R.Rank.R in
    told-start (marks_of c.args.flags) r (form_table r c.args.form.now) c.args.states.now.reps c.new-later.result.items
    c.new-later.ensures.items

pub returns-in_err-rows-clause-grows : goal.returns-in_err-rows-clause-grows
returns-in_err-rows-clause-grows g c =
    let n = c.loop-place.place in
    let e : n ≡ n + 1 - 1 = omega arith in
    err_same c.from_residual.result c.in_err-rows.field-0.0 _ c.from_residual.ensures.1 (λ p. record {
      place = n;
      rep = c.representative-op.result;
      later = c.loop-place.auto.place;
      at = ap (slice_get c.args.states.now.reps) e ∙ c.representative-op.ensures.1;
      grows = c.in_err-rows.ensures.grows p;
    })

pub returns-in_err-rows-clause-units : goal.returns-in_err-rows-clause-units
returns-in_err-rows-clause-units g c =
    err_same c.from_residual.result c.in_err-rows.field-0.0 _ c.from_residual.ensures.1 c.in_err-rows.ensures.units

pub loop-place-preserved : goal.loop-place-preserved
loop-place-preserved g c =
    let r = g.R.Rank.R in
    let n = c.loop-place.place in
    let e : n ≡ n + 1 - 1 = omega arith in
    told-more (marks_of c.args.flags) r (form_table r c.args.form.now) c.args.states.now.reps n c.loop-place.later.items
    c.push.new.self.items c.representative-op.result c.in_ok-rows.rows c.loop-place.invariant
    (ap (slice_get c.args.states.now.reps) e ∙ c.representative-op.ensures.1) c.in_ok-rows.ensures.ok c.in_ok-push.ensures.items

pub returns-clause-ok : goal.returns-clause-ok
returns-clause-ok g c =
    let r = g.R.Rank.R in
    let reps = c.args.states.now.reps in
    let some = some_state (In c.args.states.now.whole) (In c.args.states.now.sub) reps c.count-place-end.ensures.states
    c.count-place-end.ensures.groups.0.one in
    let is = c.count-place-end.ensures.is in
    let low : c.loop-place.place ≤ c.count-place-end.result = c.loop-place.auto.place-end (omega (arith, some, is)) in
    let end : c.loop-place.place ≡ length reps = omega (arith, low, is, c.loop-place-test.false) in
    subst (λ n. AreTold (marks_of c.args.flags) r (form_table r c.args.form.now) reps n c.loop-place.later.items) end
    c.loop-place.invariant
