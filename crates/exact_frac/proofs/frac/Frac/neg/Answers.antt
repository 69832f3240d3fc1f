use Rattle.std.proofs.Common.{◌∙◌, ap, sym, subst}
use Rattle.tensor_defs.specs.Number.{value_of, neg}
use Rattle.exact_frac.specs.Held.{IsHeld}
use Rattle.exact_frac.proofs.Overs.{over-neg}
use Rattle.exact_frac.proofs.Parts.{neg-held}
use Rattle.exact_frac.proofs.Wide.{negated}
use Rattle.exact_frac.proofs.frac.Frac.neg.Goals as goal

pub of_parts-requires : goal.of_parts-requires
of_parts-requires c =
    let f = c.self.inside in
    let i = c.self.invariant in
    subst (λ z. IsHeld (record { num = z; den = f.den })) (sym (negated f.num i.small_num)) (neg-held (record { num = f.num; den = f.den }) i)

pub returns-clause-value : goal.returns-clause-value
returns-clause-value c =
    let f = c.self.inside in
    let i = c.self.invariant in
    let e = c.of_parts.ensures ∙ (λ j. record { num = negated f.num i.small_num j; den = f.den }) in
    record {
      same = ap (λ v. neg (value_of v)) (sym c.self.view_is) ∙ over-neg f.num f.den i.terms.positive ∙ sym (ap value_of e);
      held = subst IsHeld (sym e) (neg-held (record { num = f.num; den = f.den }) i);
    }
