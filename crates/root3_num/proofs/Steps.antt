-- When a sum or a product of numbers a + b√3 is refused.
--   zero_held, zero_has, zero_small    the number 0
--   held-root    a pair of fractions that are held, as a number
--   AStepReaches    one of the steps of a product reaches the limit
--   sum-refused, product-refused    a refusal, whatever its error
--   roots-same    whether two pairs are one number
use Rattle.list_laws.proofs.Kit.{◌≡◌, ◌⊎◌, inl, inr, refl, ap, sym, ◌∙◌, subst, lit<, Result, Ok, Err, false≢true, IsErr}
use lib.IntN.{pos}
use Rattle.tensor_defs.specs.Number.{Number, Fraction, Root3, IsFraction, HasParts, ReachesLimit, PartReaches, ProductReaches, value_of, add, mul, whole, root_3, num_zero}
use Rattle.number_laws.proofs.Limit.{one_fraction}
use Rattle.exact_frac.specs.Held.{IsHeld, IsHeldAs, zero_over_one}
use Rattle.exact_frac.proofs.Divisors.{gcd-one}
use Rattle.exact_frac.proofs.Overs.{over-zero}
use Rattle.exact_frac.proofs.Parts.{held-not_large}
use Rattle.root3_num.specs.Roots.{value_of_root, AreHeld, IsHeldRoot}
use Rattle.root3_num.specs.Answers.{IsExactSum, IsExactProduct}
use Rattle.root3_num.specs.declared.root.TooLarge.{TooLarge}
use Rattle.root3_num.proofs.RootParts.{one-parts, sum-parts, product-parts, zero-parts}
use Rattle.root3_num.proofs.Lowering.{lowest-sum}

pub as-fraction : (x : Number) (f : Fraction) → IsHeldAs x f → IsFraction x f
as-fraction x f h = record { same = h.same; terms = h.held.terms }

pub own-fraction : (f : Fraction) → IsHeld f → IsFraction (value_of f) f
own-fraction f h = record { same = refl; terms = h.terms }

-- ---- 0
pub zero_held : IsHeldAs num_zero zero_over_one
zero_held = record {
  same = sym (over-zero 1);
  held = record { terms = record { positive = lit< tt; lowest = gcd-one 0 }; small_num = lit< tt; small_den = lit< tt };
}

pub zero_has : HasParts num_zero num_zero num_zero
zero_has = record {
  fraction_a = zero_over_one;
  fraction_b = zero_over_one;
  is_a = as-fraction num_zero zero_over_one zero_held;
  is_b = as-fraction num_zero zero_over_one zero_held;
  same = sym zero-parts;
}

pub zero_small : (x : Number) → x ≡ num_zero → ReachesLimit x → ⊥
zero_small x e = held-not_large x zero_over_one (record { same = e ∙ zero_held.same; held = zero_held.held })

-- a pair of fractions that are held, as a number
pub held-root : (x a b : Number) (f g : Fraction) → IsHeldAs a f → IsHeldAs b g → x ≡ add a (mul b root_3) →
    IsHeldRoot x (record { a = f; b = g })
held-root x a b f g h k e = record {
  is_root = record { a = a; b = b; is_a = as-fraction a f h; is_b = as-fraction b g k; same = e };
  held = record { held_a = h.held; held_b = k.held };
}

pub own-parts : (r : Root3) → AreHeld r → HasParts (value_of_root r) (value_of r.a) (value_of r.b)
own-parts r h = record {
  fraction_a = r.a;
  fraction_b = r.b;
  is_a = own-fraction r.a h.held_a;
  is_b = own-fraction r.b h.held_b;
  same = refl;
}

sums-parts : (r s : Root3) → AreHeld r → AreHeld s → HasParts (add (value_of_root r) (value_of_root s))
    (add (value_of r.a) (value_of s.a)) (add (value_of r.b) (value_of s.b))
sums-parts r s h k =
    let a = lowest-sum r.a s.a h.held_a.terms k.held_a.terms in
    let b = lowest-sum r.b s.b h.held_b.terms k.held_b.terms in
    record {
      fraction_a = a.0;
      fraction_b = b.0;
      is_a = a.1;
      is_b = b.1;
      same = sum-parts (value_of r.a) (value_of r.b) (value_of s.a) (value_of s.b) root_3;
    }

pub sum-is : (r s : Root3) (f g : Fraction) → AreHeld r → AreHeld s → IsHeldAs (add (value_of r.a) (value_of s.a)) f →
    IsHeldAs (add (value_of r.b) (value_of s.b)) g →
    IsHeldRoot (add (value_of_root r) (value_of_root s)) (record { a = f; b = g })
    × (PartReaches (add (value_of_root r) (value_of_root s)) → ⊥)
sum-is r s f g h k u v = (
  held-root _ _ _ f g u v (sum-parts (value_of r.a) (value_of r.b) (value_of s.a) (value_of s.b) root_3),
  λ p.
      let e = one-parts _ _ _ _ _ p.2 (sums-parts r s h k) in
      elim p.3 [
        | inl l ↦ held-not_large _ f u (subst ReachesLimit e.0 l)
        | inr l ↦ held-not_large _ g v (subst ReachesLimit e.1 l)
      ],
)

-- one of the steps of a product reaches the limit
abbrev pub AStepReaches : Number → Number → Number → Number → Type 0
AStepReaches a b c d =
    ReachesLimit (mul a c) ⊎ ReachesLimit (mul b d) ⊎ ReachesLimit (mul (whole (pos 3)) (mul b d))
    ⊎ ReachesLimit (add (mul a c) (mul (whole (pos 3)) (mul b d)))
    ⊎ ReachesLimit (mul a d) ⊎ ReachesLimit (mul b c) ⊎ ReachesLimit (add (mul a d) (mul b c))

pub product-calm : (r s : Root3) → AreHeld r → AreHeld s →
    (AStepReaches (value_of r.a) (value_of r.b) (value_of s.a) (value_of s.b) → ⊥) →
    ProductReaches (value_of_root r) (value_of_root s) → ⊥
product-calm r s h k no_step p =
    let e = one-parts _ _ _ _ _ p.4 (own-parts r h) in
    let f = one-parts _ _ _ _ _ p.5 (own-parts s k) in
    let Q : Number → Number → Type 0 = λ a b. AStepReaches a b (value_of s.a) (value_of s.b) in
    no_step (subst (λ a. Q a (value_of r.b)) e.0 (subst (λ b. Q p.0 b) e.1
    (subst (λ c. AStepReaches p.0 p.1 c (value_of s.b)) f.0 (subst (λ d. AStepReaches p.0 p.1 p.2 d) f.1 p.6))))

pub product-is : (r s : Root3) → AreHeld r → AreHeld s → (ac bd t a ad bc b : Fraction) →
    IsHeldAs (mul (value_of r.a) (value_of s.a)) ac → IsHeldAs (mul (value_of r.b) (value_of s.b)) bd →
    IsHeldAs (mul (whole (pos 3)) (mul (value_of r.b) (value_of s.b))) t →
    IsHeldAs (add (mul (value_of r.a) (value_of s.a)) (mul (whole (pos 3)) (mul (value_of r.b) (value_of s.b)))) a →
    IsHeldAs (mul (value_of r.a) (value_of s.b)) ad → IsHeldAs (mul (value_of r.b) (value_of s.a)) bc →
    IsHeldAs (add (mul (value_of r.a) (value_of s.b)) (mul (value_of r.b) (value_of s.a))) b →
    IsHeldRoot (mul (value_of_root r) (value_of_root s)) (record { a = a; b = b })
    × (ProductReaches (value_of_root r) (value_of_root s) → ⊥)
product-is r s h k ac bd t a ad bc b u1 u2 u3 u4 u5 u6 u7 = (
  held-root _ _ _ a b u4 u7 (product-parts (value_of r.a) (value_of r.b) (value_of s.a) (value_of s.b)),
  product-calm r s h k (λ l. elim l [
    | inl e ↦ held-not_large _ ac u1 e
    | inr (inl e) ↦ held-not_large _ bd u2 e
    | inr (inr (inl e)) ↦ held-not_large _ t u3 e
    | inr (inr (inr (inl e))) ↦ held-not_large _ a u4 e
    | inr (inr (inr (inr (inl e)))) ↦ held-not_large _ ad u5 e
    | inr (inr (inr (inr (inr (inl e))))) ↦ held-not_large _ bc u6 e
    | inr (inr (inr (inr (inr (inr e))))) ↦ held-not_large _ b u7 e
  ]),
)

-- a refusal, whatever its error, of numbers whose parts are r and s
module _ (r s v w : Root3) (p : r ≡ v) (q : s ≡ w) (h : AreHeld r) (k : AreHeld s) where
  pub sum-refused : (x : Result Root3 TooLarge) → IsErr x →
      ReachesLimit (add (value_of r.a) (value_of s.a)) ⊎ ReachesLimit (add (value_of r.b) (value_of s.b)) →
      IsExactSum (add (value_of_root v) (value_of_root w)) x
  sum-refused (Ok f) e l = absurd (false≢true e)
  sum-refused (Err f) e l = subst PartReaches (λ i. add (value_of_root (p i)) (value_of_root (q i)))
      (add (value_of r.a) (value_of s.a), add (value_of r.b) (value_of s.b), sums-parts r s h k, l)

  pub product-refused : (x : Result Root3 TooLarge) → IsErr x →
      AStepReaches (value_of r.a) (value_of r.b) (value_of s.a) (value_of s.b) →
      IsExactProduct (value_of_root v) (value_of_root w) x
  product-refused (Ok f) e l = absurd (false≢true e)
  product-refused (Err f) e l =
      subst (λ n. ProductReaches n (value_of_root w)) (ap value_of_root p) (subst (λ n. ProductReaches (value_of_root r) n) (ap value_of_root q)
      (value_of r.a, value_of r.b, value_of s.a, value_of s.b, own-parts r h, own-parts s k, l))

-- whether two pairs are one number
pub roots-same : (r s : Root3) → AreHeld r → AreHeld s → value_of_root r ≡ value_of_root s → (r.a ≡ s.a) × (r.b ≡ s.b)
roots-same r s h k e =
    let p = one-parts (value_of_root r) (value_of r.a) (value_of r.b) (value_of s.a) (value_of s.b) (own-parts r h)
    (subst (λ x. HasParts x (value_of s.a) (value_of s.b)) (sym e) (own-parts s k)) in
    (one_fraction r.a s.a h.held_a.terms k.held_a.terms p.0, one_fraction r.b s.b h.held_b.terms k.held_b.terms p.1)

pub root-zero : (r : Root3) → AreHeld r → value_of_root r ≡ num_zero → (value_of r.a ≡ num_zero) × (value_of r.b ≡ num_zero)
root-zero r h e =
    one-parts (value_of_root r) (value_of r.a) (value_of r.b) num_zero num_zero (own-parts r h)
    (subst (λ x. HasParts x num_zero num_zero) (sym e) zero_has)

pub zero-root : (r : Root3) → value_of r.a ≡ num_zero → value_of r.b ≡ num_zero → value_of_root r ≡ num_zero
zero-root r e f = (λ i. add (e i) (mul (f i) root_3)) ∙ zero-parts
