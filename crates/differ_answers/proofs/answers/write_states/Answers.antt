use Rattle.std.proofs.Common.{◌≡◌, ◌≤◌, ◌-◌, ◌+◌, ◌∙◌, ap, length, subst, sym, arith}
use Rattle.std.specs.Prelude.{slice_get}
use Rattle.magnetic_groups.specs.Sets.{In}
use Rattle.reduced_form.specs.Forms.{form_table}
use Rattle.reduced_form.proofs.ToldLaws.{err_same}
use Rattle.tensor_rank.specs.Flags.{marks_of}
use Rattle.state_marks.proofs.MarkLaws.{a_row_grows, some_state}
use Rattle.tensor_defs.specs.Lists.{Each}
use Rattle.differ_answers.specs.Standing.{IsKnown}
use Rattle.differ_answers.proofs.StateTexts.{writing-more, writing-start, written}
use Rattle.differ_answers.proofs.answers.write_states.Goals as goal

pub loop-place-init : goal.loop-place-init
loop-place-init g c =
    let r = g.R.Rank.R in
    record {
      writing = writing-start (marks_of c.flags-flags.result) r (In c.args.states.now.sub) (form_table r c.args.form.now)
          c.args.states.now.reps c.args.out.now.items;
      known = subst (Each (IsKnown (marks_of c.flags-flags.result) r (form_table r c.args.form.now) c.args.out.now.items)) (sym c.new-known.ensures.items) tt;
      capacity = omega arith;
    }

pub returns-in_err-write_known-clause-grows : goal.returns-in_err-write_known-clause-grows
returns-in_err-write_known-clause-grows g c =
    let r = g.R.Rank.R in
    let s = c.args.states.now in
    let n = c.loop-place.place in
    let e : n ≡ n + 1 - 1 = omega arith in
    err_same c.from_residual.result c.in_err-write_known.field-0.0 _ c.from_residual.ensures.1 (λ p. λ j shape fits.
    a_row_grows j (In s.whole) (In s.sub) r (marks_of c.flags-flags.result) s.reps (form_table r c.args.form.now)
    c.count-place-end.ensures.states shape.rank_is (c.flags-flags.ensures ∙ shape.marks_are) fits (record {
      place = n;
      rep = c.representative-op.result;
      later = c.loop-place.auto.place;
      at = ap (slice_get s.reps) e ∙ c.representative-op.ensures.1;
      grows = c.in_err-write_known.ensures.grows p;
    }))

pub returns-in_err-write_known-clause-units : goal.returns-in_err-write_known-clause-units
returns-in_err-write_known-clause-units g c =
    err_same c.from_residual.result c.in_err-write_known.field-0.0 _ c.from_residual.ensures.1 c.in_err-write_known.ensures.units

pub loop-place-preserved : goal.loop-place-preserved
loop-place-preserved g c =
    let r = g.R.Rank.R in
    let n = c.loop-place.place in
    let e : n ≡ n + 1 - 1 = omega arith in
    let state = c.in_ok-write_known.ensures.ok in
    record {
      writing = writing-more (marks_of c.flags-flags.result) r (In c.args.states.now.sub) (form_table r c.args.form.now)
          c.args.states.now.reps n c.representative-op.result state.state c.args.out.now.items c.loop-place.out.items
          c.write_known.new.out.items c.loop-place.auto.place
          (ap (slice_get c.args.states.now.reps) e ∙ c.representative-op.ensures.1) state.rows
          c.loop-place.invariant.writing state.text;
      known = c.in_ok-write_known.ensures.known;
      capacity = omega (arith, c.loop-place.invariant.capacity, c.in_ok-write_known.ensures.capacity);
    }

pub returns-clause-ok : goal.returns-clause-ok
returns-clause-ok g c = λ j shape fits.
    let r = g.R.Rank.R in
    let s = c.args.states.now in
    let some = some_state (In s.whole) (In s.sub) s.reps c.count-place-end.ensures.states c.count-place-end.ensures.groups.0.one in
    let is = c.count-place-end.ensures.is in
    let low : c.loop-place.place ≤ c.count-place-end.result = c.loop-place.auto.place-end (omega (arith, some, is)) in
    let end : c.loop-place.place ≡ length s.reps = omega (arith, low, is, c.loop-place-test.false) in
    written j (In s.whole) s.sub r (marks_of c.flags-flags.result) (form_table r c.args.form.now) s.reps c.loop-place.place
    c.args.out.now.items c.loop-place.out.items c.count-place-end.ensures.groups.1 c.count-place-end.ensures.states
    shape.rank_is (c.flags-flags.ensures ∙ shape.marks_are) fits end c.loop-place.invariant.writing
