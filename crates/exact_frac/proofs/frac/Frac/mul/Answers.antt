use Rattle.list_laws.proofs.Kit.{◌≡◌, ◌*◌, ◌/◌, ◌∙◌, ap, sym, subst, lit<, IsGcd}
use Rattle.std.specs.Prelude.{unsigned_abs}
use Rattle.tensor_defs.specs.Prelude.{over, mul, value_of, positive_mul}
use Rattle.exact_frac.specs.Held.{signed, opposite}
use Rattle.exact_frac.specs.Exact.{IsExact}
use Rattle.exact_frac.proofs.Divisors.{gcd-one, factor-1, factor-2, part-positive, product-lowest}
use Rattle.exact_frac.proofs.Overs.{over-mul}
use Rattle.exact_frac.proofs.Parts.{value-product}
use Rattle.exact_frac.proofs.Signs.{signed-mul}
use Rattle.exact_frac.proofs.Wide.{narrow}
use Rattle.exact_frac.proofs.frac.Frac.mul.Goals as goal

pub from_lowest-requires-2-clause-positive : goal.from_lowest-requires-2-clause-positive
from_lowest-requires-2-clause-positive c =
    let s = c.self.inside in
    let o = c.other.inside in
    positive_mul
    (part-positive s.den c.gcd-second.result (s.den / c.gcd-second.result) c.self.invariant.terms.positive
    (factor-2 c.unsigned_abs-other_size.result s.den c.gcd-second.result c.gcd-second.ensures.divisor))
    (part-positive o.den c.gcd-first.result (o.den / c.gcd-first.result) c.other.invariant.terms.positive
    (factor-2 c.unsigned_abs-size.result o.den c.gcd-first.result c.gcd-first.ensures.divisor))

pub from_lowest-requires-2-clause-lowest : goal.from_lowest-requires-2-clause-lowest
from_lowest-requires-2-clause-lowest c =
    let s = c.self.inside in
    let o = c.other.inside in
    let x = c.unsigned_abs-size.result in
    let y = c.unsigned_abs-other_size.result in
    let f = c.gcd-first.result in
    let g = c.gcd-second.result in
    let a : x ≡ unsigned_abs s.num = c.unsigned_abs-size.ensures.value ∙ ap unsigned_abs (narrow s.num c.self.invariant.small_num) in
    let b : y ≡ unsigned_abs o.num = c.unsigned_abs-other_size.ensures.value ∙ ap unsigned_abs (narrow o.num c.other.invariant.small_num) in
    product-lowest x s.den y o.den f g (x / f) (y / g) (s.den / g) (o.den / f)
    c.self.invariant.terms.positive c.other.invariant.terms.positive
    (subst (λ z. IsGcd z s.den 1) (sym a) c.self.invariant.terms.lowest)
    (subst (λ z. IsGcd z o.den 1) (sym b) c.other.invariant.terms.lowest)
    c.gcd-first.ensures.divisor c.gcd-second.ensures.divisor
    (factor-1 x o.den f c.gcd-first.ensures.divisor) (factor-1 y s.den g c.gcd-second.ensures.divisor)
    (factor-2 y s.den g c.gcd-second.ensures.divisor) (factor-2 x o.den f c.gcd-first.ensures.divisor)

pub returns : goal.returns
returns c =
    let s = c.self.inside in
    let o = c.other.inside in
    let x = c.unsigned_abs-size.result in
    let y = c.unsigned_abs-other_size.result in
    let f = c.gcd-first.result in
    let g = c.gcd-second.result in
    let n = narrow s.num c.self.invariant.small_num in
    let m = narrow o.num c.other.invariant.small_num in
    let l = factor-2 y s.den g c.gcd-second.ensures.divisor in
    let r = factor-2 x o.den f c.gcd-first.ensures.divisor in
    subst (λ z. IsExact z c.from_lowest-2.result)
    ((λ i. over (signed ((c.differ_in_sign-negative.ensures ∙ (λ j. opposite (n j) (m j))) i) (x / f * (y / g))) (s.den / g * (o.den / f)))
    ∙ value-product s.num o.num s.den o.den f g (x / f) (y / g) (s.den / g) (o.den / f)
    c.self.invariant.terms.positive c.other.invariant.terms.positive c.gcd-first.ensures.positive c.gcd-second.ensures.positive
    (part-positive s.den g (s.den / g) c.self.invariant.terms.positive l)
    (part-positive o.den f (o.den / f) c.other.invariant.terms.positive r)
    (factor-1 x o.den f c.gcd-first.ensures.divisor ∙ c.unsigned_abs-size.ensures.value ∙ ap unsigned_abs n)
    (factor-1 y s.den g c.gcd-second.ensures.divisor ∙ c.unsigned_abs-other_size.ensures.value ∙ ap unsigned_abs m)
    l r
    ∙ (λ i. mul (value_of (c.self.view_is i)) (value_of (c.other.view_is i))))
    c.from_lowest-2.ensures

pub from_lowest-requires-clause-lowest : goal.from_lowest-requires-clause-lowest
from_lowest-requires-clause-lowest c = gcd-one _

pub returns-then-other-eq1 : goal.returns-then-other-eq1
returns-then-other-eq1 c =
    let s = c.self.inside in
    let o = c.other.inside in
    let n = narrow s.num c.self.invariant.small_num in
    let m = narrow o.num c.other.invariant.small_num in
    let x = c.unsigned_abs-size.ensures.value ∙ ap unsigned_abs n in
    let y = c.unsigned_abs-other_size.ensures.value ∙ ap unsigned_abs m in
    subst (λ z. IsExact z c.from_lowest.result)
    ((λ i. over (signed ((c.differ_in_sign-negative.ensures ∙ (λ j. opposite (n j) (m j))) i) (x i * y i)) 1)
    ∙ ap (λ z. over z 1) (signed-mul s.num o.num) ∙ sym (over-mul s.num o.num 1 1 (lit< tt) (lit< tt))
    ∙ (λ i. mul (over s.num (sym c.if-self-eq1.true i)) (over o.num (sym c.if-other-eq1.true i)))
    ∙ (λ i. mul (value_of (c.self.view_is i)) (value_of (c.other.view_is i))))
    c.from_lowest.ensures
