use Rattle.std.proofs.Common.{◌≡◌, ◌<◌, ◌∙◌, ap, sym, subst}
use Rattle.std.specs.Prelude.{unsigned_abs}
use Rattle.tensor_defs.specs.Number.{value_of, mul, limit}
use Rattle.exact_frac.specs.Held.{IsHeld, signed, inverse_of}
use Rattle.exact_frac.proofs.Parts.{inverse-held, inverse-parts, inverse-mul, numerator}
use Rattle.exact_frac.proofs.Signs.{below-zero}
use Rattle.exact_frac.proofs.Wide.{narrow}
use Rattle.exact_frac.proofs.frac.Frac.inverse.Goals as goal

pub of_parts-requires : goal.of_parts-requires
of_parts-requires c =
    let f = c.self.inside in
    let i = c.self.invariant in
    let h = inverse-held (record { num = f.num; den = f.den }) i (λ e. c.requires (sym (ap value_of c.self.view_is) ∙ e)) in
    let n = narrow f.num i.small_num in
    let r = c.with_sign.ensures ∙ (λ j. signed ((below-zero (n j) j)) f.den) in
    let t = narrow c.with_sign.result (subst (λ z. unsigned_abs z < limit) (sym r) h.small_num) in
    subst IsHeld (λ j. record { num = sym (t ∙ r) j; den = sym (c.unsigned_abs.ensures.value ∙ ap unsigned_abs n) j }) h

pub returns-clause-value : goal.returns-clause-value
returns-clause-value c =
    let f = c.self.inside in
    let i = c.self.invariant in
    let h = inverse-held (record { num = f.num; den = f.den }) i (λ e. c.requires (sym (ap value_of c.self.view_is) ∙ e)) in
    let n = narrow f.num i.small_num in
    let r = c.with_sign.ensures ∙ (λ j. signed ((below-zero (n j) j)) f.den) in
    let t = narrow c.with_sign.result (subst (λ z. unsigned_abs z < limit) (sym r) h.small_num) in
    let e = c.of_parts.ensures ∙ (λ j. record { num = (t ∙ r) j; den = (c.unsigned_abs.ensures.value ∙ ap unsigned_abs n) j }) in
    record {
      same = ap inverse_of (sym c.self.view_is)
          ∙ sym (inverse-parts f.num f.den (numerator (record { num = f.num; den = f.den }) i.terms.positive (λ e. c.requires (sym (ap value_of c.self.view_is) ∙ e))))
          ∙ sym (ap value_of e);
      held = subst IsHeld (sym e) h;
    }

pub returns-clause-inverse : goal.returns-clause-inverse
returns-clause-inverse c =
    let f = c.self.inside in
    let v : record { num = f.num; den = f.den } ≡ c.args.self.now = c.self.view_is in
    ap (λ x. mul (value_of x) (inverse_of x)) (sym v)
    ∙ inverse-mul (record { num = f.num; den = f.den }) c.self.invariant.terms (λ e. c.requires (sym (ap value_of v) ∙ e))
