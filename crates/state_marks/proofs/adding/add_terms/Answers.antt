use Rattle.list_laws.proofs.Kit.{◌<◌, length, subst, arith, get_or_read}
use Rattle.root3_num.specs.Roots.{value_of_root}
use Rattle.exact_frac.specs.Held.{zero_over_one}
use Rattle.reduced_form.specs.declared.forms.Term.{Term}
use Rattle.state_marks.specs.Sums.{AddsTerm, TermGrows}
use Rattle.list_laws.proofs.Members.{each_at}
use Rattle.state_marks.proofs.Refusals.{on_err_always}
use Rattle.state_marks.proofs.Parts.{adding-start, adding-step, adding-grows, adding-end}
use Rattle.state_marks.proofs.adding.add_terms.Goals as goal

pub loop-place-init : goal.loop-place-init
loop-place-init c = adding-start c.args.sums.now (value_of_root c.args.factor.now) c.args.terms.now

pub returns-in_err-add_term-clause-grows : goal.returns-in_err-add_term-clause-grows
returns-in_err-add_term-clause-grows c =
    let ts = c.args.terms.now in
    let n = c.loop-place.place in
    let h : n < length ts = omega (arith, c.loop-place-test.true) in
    let x = value_of_root c.args.factor.now in
    let at = get_or_read ts n c.index-terms-place.result h c.index-terms-place.is (record { free = 0; factor = zero_over_one }) in
    let below = each_at (λ (t : Term). t.free < length c.args.sums.now) ts c.requires.within n (record { free = 0; factor = zero_over_one }) h in
    on_err_always c.from_residual.result
    (adding-grows c.args.sums.now x ts c.requires.rising n h c.loop-place.sums c.loop-place.invariant below
    (subst (λ (t : Term). TermGrows c.loop-place.sums x t) at c.in_err-add_term.ensures.grows))

pub loop-place-preserved : goal.loop-place-preserved
loop-place-preserved c =
    let ts = c.args.terms.now in
    let n = c.loop-place.place in
    let h : n < length ts = omega (arith, c.loop-place-test.true) in
    let x = value_of_root c.args.factor.now in
    let at = get_or_read ts n c.index-terms-place.result h c.index-terms-place.is (record { free = 0; factor = zero_over_one }) in
    let below = each_at (λ (t : Term). t.free < length c.args.sums.now) ts c.requires.within n (record { free = 0; factor = zero_over_one }) h in
    adding-step c.args.sums.now x ts c.requires.rising n h c.loop-place.sums c.loop-place.invariant below c.add_term.new.sums
    (subst (λ (t : Term). AddsTerm c.loop-place.sums x t c.add_term.new.sums) at c.in_ok-add_term.ensures.ok)

pub returns-clause-ok : goal.returns-clause-ok
returns-clause-ok c =
    adding-end c.args.sums.now (value_of_root c.args.factor.now) c.args.terms.now c.loop-place.place c.loop-place.sums
    (omega (arith, c.loop-place-test.false)) c.loop-place.invariant
