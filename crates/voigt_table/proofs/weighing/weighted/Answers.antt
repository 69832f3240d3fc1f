use Rattle.std.proofs.Common.{◌≡◌, ◌+◌, ◌-◌, ℕ, ap, sym, ◌∙◌, subst, arith}
use Rattle.tensor_defs.specs.Prelude.{Number, mul, num_one, value_of, halved}
use Rattle.exact_frac.specs.Exact.{IsExact}
use Rattle.exact_frac.specs.Held.{inverse_of}
use Rattle.voigt_table.proofs.WeightLaws.{down, even, pow2, pow2_not_zero, up}
use Rattle.voigt_table.proofs.weighing.weighted.Goals as goal

pub returns-then-shift-other : goal.returns-then-shift-other
returns-then-shift-other c =
    let x : Number = value_of c.args.factor.now in
    record {
      same = ap (λ (n : ℕ). halved n (mul (pow2 c.args.shift) x)) (sym c.if-shift-other.true) ∙ even c.args.shift x c.requires.shift;
      held = c.in_lowest_terms.ensures.held;
    }

pub returns-then-shift-other-2 : goal.returns-then-shift-other-2
returns-then-shift-other-2 c =
    let x : Number = value_of c.args.factor.now in
    let m : ℕ = c.args.other in
    let k : ℕ = c.args.shift - c.args.other in
    let sum : m + k ≡ c.args.shift = omega arith in
    let power : value_of c.power_of_two.result ≡ pow2 k = sym c.power_of_two.ensures.same in
    let same : mul x (value_of c.power_of_two.result) ≡ halved m (mul (pow2 c.args.shift) x) =
    ap (mul x) power ∙ sym (up m k x (omega (arith, c.requires.shift))) ∙ ap (λ n. halved m (mul (pow2 n) x)) sum in
    subst (λ (n : Number). IsExact n c.mul.result) same c.mul.ensures

pub div-requires : goal.div-requires
div-requires c =
    let k : ℕ = c.args.other - c.args.shift in
    λ zero. pow2_not_zero k (omega (arith, c.requires.other))
    (c.power_of_two-2.ensures.same ∙ zero)

pub returns : goal.returns
returns c =
    let x : Number = value_of c.args.factor.now in
    let n : ℕ = c.args.shift in
    let k : ℕ = c.args.other - c.args.shift in
    let sum : n + k ≡ c.args.other = omega arith in
    let power : value_of c.power_of_two-2.result ≡ pow2 k = sym c.power_of_two-2.ensures.same in
    let back : mul (pow2 k) (inverse_of c.power_of_two-2.result) ≡ num_one =
    ap (λ y. mul y (inverse_of c.power_of_two-2.result)) (sym power) ∙ c.div.ensures.inverse in
    let same : mul x (inverse_of c.power_of_two-2.result) ≡ halved c.args.other (mul (pow2 n) x) =
    sym (down n k x (inverse_of c.power_of_two-2.result) (omega (arith, c.requires.other)) back)
    ∙ ap (λ m. halved m (mul (pow2 n) x)) sum in
    subst (λ (y : Number). IsExact y c.div.result) same c.div.ensures.value
