use Rattle.list_laws.proofs.Kit.{◌≡◌, ◌*◌, ◌/◌, ◌≤◌, ◌^◌, ℕ, ◌∙◌, ap, sym, subst, arith, rules, div-le_self, IsGcd, to_z-of_z}
use Rattle.std.specs.Prelude.{unsigned_abs}
use Rattle.tensor_defs.specs.Prelude.{over, add, value_of, positive_mul}
use Rattle.exact_frac.specs.Held.{signed}
use lib.IntN.{pos, ◌+ℤ◌, ◌*ℤ◌}
use lib.Signed.{lt_z}
use mir.Val.{SFits}
use mir.Syntax.{w128}
use Rattle.exact_frac.proofs.Signs.{below-zero}
use Rattle.exact_frac.specs.Exact.{IsExact}
use Rattle.exact_frac.proofs.Divisors.{factor-1, factor-2, part-positive, sum-lowest}
use Rattle.exact_frac.proofs.Parts.{value-sum, value-sum_same}
use Rattle.exact_frac.proofs.Wide.{narrow, plain_sum_is, below_product}
use Rattle.exact_frac.proofs.frac.Frac.add.Goals as goal

pub returns-then-self-other : goal.returns-then-self-other
returns-then-self-other c =
    let s = c.self.inside in
    let o = c.other.inside in
    let n = plain_sum_is s.num o.num c.self.invariant.small_num c.other.invariant.small_num in
    let a = c.unsigned_abs.ensures.value ∙ ap unsigned_abs n in
    subst (λ z. IsExact z c.lowered.result)
    ((λ i. over (signed ((ap (λ z. lt_z z (pos 0)) n ∙ below-zero (s.num +ℤ o.num)) i) (a i)) s.den)
    ∙ value-sum_same s.num o.num s.den c.self.invariant.terms.positive
    ∙ ap (λ d. add (over s.num s.den) (over o.num d)) c.if-self-other.true
    ∙ (λ i. add (value_of (c.self.view_is i)) (value_of (c.other.view_is i))))
    c.lowered.ensures

pub lowered_sum-requires-clause-positive : goal.lowered_sum-requires-clause-positive
lowered_sum-requires-clause-positive c =
    let s = c.self.inside in
    let o = c.other.inside in
    let g = c.gcd-common.result in
    positive_mul
    (part-positive s.den g (s.den / g) c.self.invariant.terms.positive (factor-1 s.den o.den g c.gcd-common.ensures.divisor))
    (part-positive o.den g (o.den / g) c.other.invariant.terms.positive (factor-2 s.den o.den g c.gcd-common.ensures.divisor))

pub lowered_sum-requires-clause-fits : goal.lowered_sum-requires-clause-fits
lowered_sum-requires-clause-fits c =
    let s = c.self.inside in
    let o = c.other.inside in
    let g = c.gcd-common.result in
    let h : s.den / g * (o.den / g) * g ≡ s.den / g * o.den = assoc (s.den / g) (o.den / g) g
    ∙ ap (λ x. s.den / g * x) (factor-2 s.den o.den g c.gcd-common.ensures.divisor) in
    let k : s.den / g ≤ s.den = div-le_self s.den g in
    let b : s.den / g * o.den ≤ 2 ^ 124 = below_product (s.den / g) o.den (omega (arith, k, c.self.invariant.small_den)) c.other.invariant.small_den in
    omega (arith, h, b)
  where
    assoc : (a b c : ℕ) → (a * b) * c ≡ a * (b * c)
    assoc a b c = omega arith

pub lowered_sum-requires-clause-apart : goal.lowered_sum-requires-clause-apart
lowered_sum-requires-clause-apart c =
    let s = c.self.inside in
    let o = c.other.inside in
    let g = c.gcd-common.result in
    let z = c.cross_sum-sum.result in
    let f : SFits w128 z = search rules in
    subst (λ x. IsGcd (unsigned_abs x) (s.den / g * (o.den / g)) 1)
    (sym (to_z-of_z w128 z f ∙ c.cross_sum-sum.ensures
    ∙ (λ i. (narrow s.num c.self.invariant.small_num i *ℤ pos (o.den / g)) +ℤ (narrow o.num c.other.invariant.small_num i *ℤ pos (s.den / g)))))
    (sum-lowest s.num o.num s.den o.den g (s.den / g) (o.den / g) c.other.invariant.terms.positive
    c.self.invariant.terms.lowest c.other.invariant.terms.lowest c.gcd-common.ensures.divisor
    (factor-1 s.den o.den g c.gcd-common.ensures.divisor) (factor-2 s.den o.den g c.gcd-common.ensures.divisor))

pub returns : goal.returns
returns c =
    let s = c.self.inside in
    let o = c.other.inside in
    let g = c.gcd-common.result in
    let z = c.cross_sum-sum.result in
    let f : SFits w128 z = search rules in
    let l = factor-1 s.den o.den g c.gcd-common.ensures.divisor in
    let r = factor-2 s.den o.den g c.gcd-common.ensures.divisor in
    subst (λ x. IsExact x c.lowered_sum.result)
    (ap (λ x. over x (s.den / g * (o.den / g) * g)) (to_z-of_z w128 z f ∙ c.cross_sum-sum.ensures
    ∙ (λ i. (narrow s.num c.self.invariant.small_num i *ℤ pos (o.den / g)) +ℤ (narrow o.num c.other.invariant.small_num i *ℤ pos (s.den / g))))
    ∙ value-sum s.num o.num s.den o.den (s.den / g) (o.den / g) g
    (part-positive s.den g (s.den / g) c.self.invariant.terms.positive l)
    (part-positive o.den g (o.den / g) c.other.invariant.terms.positive r)
    c.gcd-common.ensures.positive l r
    ∙ (λ i. add (value_of (c.self.view_is i)) (value_of (c.other.view_is i))))
    c.lowered_sum.ensures
