use Rattle.list_laws.proofs.Kit.{Global, Vec, ◌∷◌, ◌≤◌, ◌^◌, ◌∙◌, [], map, ap, length, subst, sym, arith, map-append}
use Rattle.tensor_defs.specs.Tensor.{index_of}
use Rattle.tensor_laws.proofs.ComponentNumbers.{length-index_of}
use Rattle.reduced_form.specs.Forms.{form_table}
use Rattle.reduced_form.proofs.ToldLaws.{err_same}
use Rattle.tensor_rank.specs.Flags.{marks_of}
use Rattle.state_marks.specs.declared.rows.RootTerm.{RootTerm}
use Rattle.state_marks.specs.Sums.{IsZeros}
use Rattle.state_marks.proofs.Bounds.{plain-calm}
use Rattle.state_marks.proofs.MarkLaws.{form_has_units}
use Rattle.state_marks.proofs.StateLaws.{rows-end, rows-more, rows-start}
use Rattle.state_marks.proofs.states.state_rows.Goals as goal

pub loop-number-init : goal.loop-number-init
loop-number-init g c =
    let r = g.R.Rank.R in
    record {
      zeros = subst (IsZeros (length c.args.form.now.free)) (sym c.deref_mut-sums.ensures.value)
          (subst (λ n. IsZeros n c.in_ok-held.held.items) c.free_count.ensures.is c.in_ok-held.ensures);
      rows = rows-start (marks_of c.args.flags) c.args.op.now r (form_table r c.args.form.now) _ c.in_ok-marks.marks.items
          (ap (map (λ (row : Vec RootTerm Global). row.items)) c.in_ok-rows.ensures.items) c.in_ok-marks.ensures.items;
    }

pub row_of-requires-clause-few : goal.row_of-requires-clause-few
row_of-requires-clause-few g c =
    let few = c.free_count.ensures.few in
    let is = c.free_count.ensures.is in
    let fits = g.R.Rank.fits in
    omega (arith, few, is, fits)

pub returns-in_err-row-clause-grows : goal.returns-in_err-row-clause-grows
returns-in_err-row-clause-grows g c =
    let r = g.R.Rank.R in
    err_same c.from_residual-in_err-row.result c.in_err-row.field-0.0 _ c.from_residual-in_err-row.ensures.1
    (λ p. (index_of r c.loop-number.number, length-index_of r c.loop-number.number, c.in_err-row.ensures.grows p))

pub returns-in_err-row-clause-units : goal.returns-in_err-row-clause-units
returns-in_err-row-clause-units g c =
    let r = g.R.Rank.R in
    let f = c.args.form.now in
    err_same c.from_residual-in_err-row.result c.in_err-row.field-0.0 _ c.from_residual-in_err-row.ensures.1
    (λ p. λ units. plain-calm (marks_of c.args.flags) c.args.op.now c.place-place.result c.place-place.ensures.below c.place-place.ensures.at r
    g.R.Rank.small (index_of r c.loop-number.number) (length-index_of r c.loop-number.number) (form_table r f)
    (form_has_units r g.R.Rank.LEN f g.R.Rank.power units) (c.in_err-row.ensures.grows p))

pub loop-number-preserved : goal.loop-number-preserved
loop-number-preserved g c =
    let r = g.R.Rank.R in
    record {
      zeros = c.in_ok-row.ensures.zeros;
      rows = rows-more (marks_of c.args.flags) c.args.op.now r (form_table r c.args.form.now) c.loop-number.number
          (map (λ (row : Vec RootTerm Global). row.items) c.loop-number.rows.items)
          (map (λ (row : Vec RootTerm Global). row.items) c.push.new.self.items) c.loop-number.marks.items
          c.push-in-loop-number.new.self.items c.in_ok-row.row.terms.items c.in_ok-row.row.marked c.loop-number.invariant.rows
          c.in_ok-row.ensures.ok
          (ap (map (λ (row : Vec RootTerm Global). row.items)) c.in_ok-push.ensures.items
          ∙ map-append (λ (row : Vec RootTerm Global). row.items) c.loop-number.rows.items (c.in_ok-row.row.terms ∷ []))
          c.in_ok-push-2.ensures.items;
    }

pub returns-clause-ok : goal.returns-clause-ok
returns-clause-ok g c =
    let r = g.R.Rank.R in
    let power = g.R.Rank.power in
    let past : 3 ^ r ≤ c.loop-number.number = omega (arith, power, c.loop-number-test.false, c.LEN-number-end.ensures) in
    rows-end (marks_of c.args.flags) c.args.op.now r (form_table r c.args.form.now) c.loop-number.number
    (record { rows = map (λ (row : Vec RootTerm Global). row.items) c.loop-number.rows.items; marks = c.loop-number.marks.items })
    past c.loop-number.invariant.rows
