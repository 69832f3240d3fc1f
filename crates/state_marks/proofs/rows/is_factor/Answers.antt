use Rattle.list_laws.proofs.Kit.{◌≡◌, ◌<◌, ◌≤◌, ◌∙◌, length, ap, sym, arith, get_or_read}
use Rattle.tensor_defs.specs.Number.{num_zero, value_of}
use Rattle.exact_frac.specs.Held.{zero_over_one}
use Rattle.reduced_form.specs.declared.forms.Term.{Term}
use Rattle.state_marks.specs.Sums.{factor_in}
use Rattle.state_marks.proofs.Factors.{factor-first, factor-none}
use Rattle.state_marks.proofs.rows.is_factor.Goals as goal

pub returns-then-terms-place : goal.returns-then-terms-place
returns-then-terms-place c =
    let ts = c.args.terms.now in
    let n = c.loop-place.place in
    let h : n < length ts = omega (arith, c.loop-place-test.true) in
    let d : Term = record { free = 0; factor = zero_over_one } in
    let one = get_or_read ts n c.index-terms-place.result h c.index-terms-place.is d in
    let two = get_or_read ts n c.index-terms-place-then-terms-place.result h c.index-terms-place-then-terms-place.is d in
    let e = factor-first c.args.free ts n h c.loop-place.invariant (ap (λ (t : Term). t.free) (sym one ∙ c.index-terms-place.is) ∙ c.if-terms-place.true)
    ∙ ap (λ (t : Term). value_of t.factor) (sym two ∙ c.index-terms-place-then-terms-place.is) in
    ((λ t. c.is_fraction.ensures.0 t ∙ sym e), (λ s. c.is_fraction.ensures.1 (s ∙ e)))

pub returns : goal.returns
returns c =
    let ts = c.args.terms.now in
    let past : length ts ≤ c.loop-place.place = omega (arith, c.loop-place-test.false) in
    let e : factor_in ts c.args.free ≡ num_zero =
    factor-none c.args.free ts (λ q l. c.loop-place.invariant q (omega (arith, l, past))) in
    ((λ t. c.is_zero.ensures.0 t ∙ sym e), (λ s. c.is_zero.ensures.1 (s ∙ e)))
