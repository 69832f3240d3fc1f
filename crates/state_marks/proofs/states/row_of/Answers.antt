use Rattle.std.proofs.Common.{◌≡◌, ◌<◌, ◌^◌, ◌∙◌, length, List, map, subst, sym, arith}
use Rattle.tensor_defs.specs.Prelude.{Each, IsRising, StateRowGrows, places_rise, index_of}
use Rattle.reduced_form.proofs.ToldLaws.{err_same}
use Rattle.reduced_form.specs.declared.forms.Term.{Term}
use Rattle.reduced_form.specs.Forms.{form_table, row_at, term_of}
use Rattle.tensor_rank.specs.Flags.{marks_of}
use Rattle.state_marks.specs.Adding.{IsRow}
use Rattle.state_marks.specs.Sums.{TellsBoth}
use Rattle.state_marks.proofs.RowTells.{free_length, row_is, row_rising, row_within}
use Rattle.state_marks.proofs.states.row_of.Goals as goal

pub terms_of-requires : goal.terms_of-requires
terms_of-requires g c =
    let r = g.R.Rank.R in
    let long = c.in_ok-add_parts.ensures.ok.len in
    let free = free_length r c.args.form.now in
    let few = c.requires.few in
    omega (arith, long, free, few)

pub differs-marked-requires-clause-within : goal.differs-marked-requires-clause-within
differs-marked-requires-clause-within g c =
    let r = g.R.Rank.R in
    let f = c.args.form.now in
    let n = c.at-to.result in
    let below : n < 3 ^ r = subst (λ k. n < k) g.R.Rank.power (omega (arith, c.at-to.ensures, c.requires.number)) in
    let long : length f.free ≡ length c.add_parts.new.sums = sym (free_length r f) ∙ sym c.in_ok-add_parts.ensures.ok.len in
    subst (λ (ts : List Term). Each (λ t. t.free < length c.add_parts.new.sums) ts) (sym c.row.ensures.is)
    (subst (λ k. Each (λ (t : Term). t.free < k) (row_at f.rows n)) long (row_within r f c.requires.formed n below))

pub differs-marked-requires-clause-rising : goal.differs-marked-requires-clause-rising
differs-marked-requires-clause-rising g c =
    let r = g.R.Rank.R in
    let f = c.args.form.now in
    let n = c.at-to.result in
    let below : n < 3 ^ r = subst (λ k. n < k) g.R.Rank.power (omega (arith, c.at-to.ensures, c.requires.number)) in
    subst (λ (ts : List Term). IsRising places_rise (map term_of ts)) (sym c.row.ensures.is) (row_rising r f c.requires.formed n below)

pub returns-clause-ok : goal.returns-clause-ok
returns-clause-ok g c =
    let r = g.R.Rank.R in
    let m = marks_of c.args.flags in
    let f = c.args.form.now in
    let n = c.at-to.result in
    let below : n < 3 ^ r = subst (λ k. n < k) g.R.Rank.power (omega (arith, c.at-to.ensures, c.requires.number)) in
    let sums = c.add_parts.new.sums in
    let row = c.in_ok-terms.terms.items in
    subst (λ k. IsRow m c.args.op.now r (form_table r f) (index_of r k) row c.differs-marked.result) c.at-to.ensures
    (row_is m c.args.op.now r f n below sums row c.in_ok-add_parts.ensures.ok c.in_ok-terms.ensures c.differs-marked.result
    (subst (λ (ts : List Term). TellsBoth sums ts c.differs-marked.result) c.row.ensures.is c.differs-marked.ensures))

pub returns-in_err-add_parts-clause-grows : goal.returns-in_err-add_parts-clause-grows
returns-in_err-add_parts-clause-grows g c =
    let r = g.R.Rank.R in
    err_same c.from_residual.result c.in_err-add_parts.field-0.0 _ c.from_residual.ensures.1
    (λ p. subst (λ k. StateRowGrows (marks_of c.args.flags) c.args.op.now (form_table r c.args.form.now) r (index_of r k)) c.at-to.ensures
    (c.in_err-add_parts.ensures.grows p))
