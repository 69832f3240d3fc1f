-- Each fraction has lowest terms.
use Rattle.list_laws.proofs.Kit.{ℕ, zero, suc, ◌*◌, ◌/◌, ◌%◌, ◌<◌, ◌≤◌, inl, inr, sym, ◌∙◌, ap, subst, arith, IsGcd, IsGcd-from_zero, IsGcd-from_mod}
use Rattle.std.specs.Prelude.{unsigned_abs}
use native.Mathlib.Nat.{mod-lt, eq-zero-or-pos}
use lib.IntN.{ℤ, pos, ◌+ℤ◌, ◌*ℤ◌}
use Rattle.tensor_defs.specs.Prelude.{positive_mul, Fraction, IsFraction, IsLowest, over, value_of, add}
use Rattle.exact_frac.specs.Held.{signed, is_negative}
use Rattle.exact_frac.proofs.Divisors.{factor-1, factor-2, part-positive, parts-lowest, gcd-positive}
use Rattle.exact_frac.proofs.Signs.{signed-is, size-signed}
use Rattle.exact_frac.proofs.Parts.{value-scale}
use Rattle.exact_frac.proofs.Overs.{over-add}

some-gcd : (n a b : ℕ) → b ≤ n → (g : ℕ) × IsGcd a b g
some-gcd zero a b h = (a, IsGcd-from_zero a b (omega arith))
some-gcd (suc n) a b h = elim (eq-zero-or-pos b) [
  | inl e ↦ (a, IsGcd-from_zero a b e)
  | inr p ↦
      let l : a % b < b = mod-lt a p in
      let k = some-gcd n b (a % b) (omega arith) in
      (k.0, IsGcd-from_mod a b k.0 k.1)
]

-- the lowest terms of p/d
pub lowest-over : (p : ℤ) (d : ℕ) → 0 < d → (f : Fraction) × IsFraction (over p d) f
lowest-over p d h =
    let n = unsigned_abs p in
    let k : (g : ℕ) × IsGcd n d g = some-gcd d n d (omega arith) in
    let g = k.0 in
    let u = factor-1 n d g k.1 in
    let v = factor-2 n d g k.1 in
    let e : 0 < d / g = part-positive d g (d / g) h v in (
      record { num = signed (is_negative p) (n / g); den = d / g },
      record {
        same = sym (value-scale (is_negative p) (n / g) (d / g) g n d e (gcd-positive n d g h k.1) u v
            ∙ ap (λ z. over z d) (signed-is p));
        terms = record {
          positive = e;
          lowest = subst (λ x. IsGcd x (d / g) 1) (sym (size-signed (is_negative p) (n / g))) (parts-lowest n d g (n / g) (d / g) h k.1 u v);
        };
      },
    )

pub lowest-sum : (f g : Fraction) → IsLowest f → IsLowest g → (h : Fraction) × IsFraction (add (value_of f) (value_of g)) h
lowest-sum f g s t =
    let k = lowest-over ((f.num *ℤ pos g.den) +ℤ (g.num *ℤ pos f.den)) (f.den * g.den) (positive_mul s.positive t.positive) in
    (k.0, record { same = over-add f.num g.num f.den g.den s.positive t.positive ∙ k.1.same; terms = k.1.terms })
