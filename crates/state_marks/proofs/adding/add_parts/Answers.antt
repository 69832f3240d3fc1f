use Rattle.std.proofs.Common.{◌≡◌, ◌<◌, ◌^◌, ◌∙◌, length, subst, sym, arith}
use Rattle.tensor_defs.specs.Prelude.{Each, index_of}
use Rattle.tensor_laws.proofs.ComponentNumbers.{length-index_of}
use Rattle.reduced_form.specs.Forms.{form_table, row_at}
use Rattle.tensor_rank.specs.Flags.{marks_of}
use Rattle.tensor_action.specs.Reaching.{AreParts}
use Rattle.state_marks.specs.Sums.{IsZeros}
use Rattle.state_marks.proofs.RowTells.{free_length, row_rising, row_within}
use Rattle.state_marks.proofs.Skips.{number_small, parts-end, parts-grow, parts-more, parts-start, row_told}
use Rattle.state_marks.proofs.MarkLaws.{grown_told}
use Rattle.state_marks.proofs.adding.add_parts.Goals as goal

pub loop-place-init : goal.loop-place-init
loop-place-init g c =
    let r = g.R.Rank.R in
    let i = index_of r c.args.to in
    parts-start (marks_of c.args.flags) c.args.op.now r (form_table r c.args.form.now) i
    (length-index_of r c.args.to) c.as_slice-parts.result.now c.args.sums.now
    (subst (AreParts c.args.op.now i) (sym c.as_slice-parts.ensures) c.set.ensures)
    (subst (λ n. IsZeros n c.args.sums.now) (sym (free_length r c.args.form.now)) c.requires.zeros)

pub add_part-requires-clause-within : goal.add_part-requires-clause-within
add_part-requires-clause-within g c =
    let r = g.R.Rank.R in
    let f = c.args.form.now in
    let small = number_small (marks_of c.args.flags) c.args.op.now r (form_table r f) (index_of r c.args.to) (length-index_of r c.args.to)
    c.as_slice-parts.result.now c.loop-place.place (omega (arith, c.loop-place-test.true)) c.loop-place.sums c.loop-place.invariant in
    let long : length f.free ≡ length c.loop-place.sums = sym (free_length r f) ∙ sym c.loop-place.invariant.len in
    rw c.row-row.ensures.is (subst (λ n. Each (λ t. t.free < n) (row_at f.rows c.at.result)) long
    (row_within r f c.requires.formed c.at.result (subst (λ n. n < 3 ^ r) (sym c.at.ensures) small)))

pub add_part-requires-clause-rising : goal.add_part-requires-clause-rising
add_part-requires-clause-rising g c =
    let r = g.R.Rank.R in
    let f = c.args.form.now in
    let small = number_small (marks_of c.args.flags) c.args.op.now r (form_table r f) (index_of r c.args.to) (length-index_of r c.args.to)
    c.as_slice-parts.result.now c.loop-place.place (omega (arith, c.loop-place-test.true)) c.loop-place.sums c.loop-place.invariant in
    rw c.row-row.ensures.is (row_rising r f c.requires.formed c.at.result (subst (λ n. n < 3 ^ r) (sym c.at.ensures) small))

pub returns-in_err-add_part-clause-grows : goal.returns-in_err-add_part-clause-grows
returns-in_err-add_part-clause-grows g c =
    let r = g.R.Rank.R in
    let m = marks_of c.args.flags in
    let op = c.args.op.now in
    let f = c.args.form.now in
    let a = form_table r f in
    let i = index_of r c.args.to in
    let long = length-index_of r c.args.to in
    let ps = c.as_slice-parts.result.now in
    let k = c.loop-place.place in
    let h : k < length ps = omega (arith, c.loop-place-test.true) in
    let small = number_small m op r a i long ps k h c.loop-place.sums c.loop-place.invariant in
    grown_told c.from_residual.result _
    (parts-grow m op r a i long ps k h c.loop-place.sums c.loop-place.invariant c.row-row.result.now
    (λ q. row_told r f c.row-row.result.now c.at.result _ q c.row-row.ensures.is c.at.ensures small) c.sign_of-sign.result c.sign_of-sign.ensures c.in_err-add_part.ensures.grows)

pub loop-place-preserved : goal.loop-place-preserved
loop-place-preserved g c =
    let r = g.R.Rank.R in
    let m = marks_of c.args.flags in
    let op = c.args.op.now in
    let f = c.args.form.now in
    let a = form_table r f in
    let i = index_of r c.args.to in
    let long = length-index_of r c.args.to in
    let ps = c.as_slice-parts.result.now in
    let k = c.loop-place.place in
    let h : k < length ps = omega (arith, c.loop-place-test.true) in
    let small = number_small m op r a i long ps k h c.loop-place.sums c.loop-place.invariant in
    parts-more m op r a i long ps k h c.loop-place.sums c.loop-place.invariant c.row-row.result.now
    (λ q. row_told r f c.row-row.result.now c.at.result _ q c.row-row.ensures.is c.at.ensures small) c.sign_of-sign.result c.sign_of-sign.ensures c.add_part.new.sums
    c.in_ok-add_part.ensures.ok

pub returns-clause-ok : goal.returns-clause-ok
returns-clause-ok g c =
    let r = g.R.Rank.R in
    parts-end (marks_of c.args.flags) c.args.op.now r (form_table r c.args.form.now) (index_of r c.args.to)
    (length-index_of r c.args.to) c.as_slice-parts.result.now c.loop-place.place c.loop-place.sums
    (omega (arith, c.loop-place-test.false)) c.loop-place.invariant
