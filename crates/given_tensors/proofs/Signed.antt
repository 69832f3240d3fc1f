-- Where factors with a sign grow, and what they carry a tensor to.
--   grows_marks     growth under one list of marks is growth under another
--   factor_marks    the factors under the two are the same but for a sign
--   act_marks       so are the components of the carried tensor
use Rattle.list_laws.proofs.Kit.{◌≡◌, ℕ, ◌⊎◌, inl, inr, List, [], ◌∷◌, length, refl, ap, sym, ◌∙◌, subst, take, IsGcd}
use lib.IntN.{pos, negsuc, neg_ℤ}
use Rattle.std.specs.Prelude.{◌≤◌}
use Rattle.tensor_defs.specs.Prelude.{Fraction, HasParts, IsFraction, Number, PartReaches, ProductReaches, ReachesLimit, add, limit, mul, neg, num_one}
use Rattle.tensor_defs.specs.Prelude.{root_3, whole, Operation, sum_of, Index, Marks, Tensor, act, coefficient, indices, sign}
use Rattle.tensor_defs.specs.declared.Sign.{Sign}
use Rattle.tensor_defs.specs.declared.Sign.TheVariants.{Plus, Minus}
use Rattle.number_laws.proofs.NumberLaws.{num_mul-add, num_mul_assoc, num_mul_left_comm, num_neg-neg}
use Rattle.exact_frac.proofs.Overs.{over-neg}
use Rattle.exact_frac.proofs.Signs.{size-neg}
use Rattle.root3_num.proofs.RootParts.{neg-parts}
use Rattle.sign_moves.specs.Signs.{signed, times}
use Rattle.sign_moves.proofs.SignLaws.{signed-signed, signed_zero}
use Rattle.tensor_action.specs.Acting.{ActGrows, SumGrows, factor}
use Rattle.tensor_action.proofs.CarryLaws.{sum_is_act}
use Rattle.tensor_action.proofs.FactorLaws.{signed_factor}

-- ---- negatives
fraction_negative : (x : Number) (f : Fraction) → IsFraction x f → IsFraction (neg x) (record { num = neg_ℤ f.num; den = f.den })
fraction_negative x f h = record {
  same = ap neg h.same ∙ over-neg f.num f.den h.terms.positive;
  terms = record {
    positive = h.terms.positive;
    lowest = subst (λ n. IsGcd n f.den 1) (sym (size-neg f.num)) h.terms.lowest;
  };
}

limit_negative : (x : Number) → ReachesLimit x → ReachesLimit (neg x)
limit_negative x h = record {
  parts = record { num = neg_ℤ h.parts.num; den = h.parts.den };
  is_parts = fraction_negative x h.parts h.is_parts;
  large = subst (λ n. (limit ≤ n) ⊎ (limit ≤ h.parts.den)) (sym (size-neg h.parts.num)) h.large;
}

limit_same : (x y : Number) → y ≡ neg x → ReachesLimit x → ReachesLimit y
limit_same x y e h = subst ReachesLimit (sym e) (limit_negative x h)

parts_negative : (x a b : Number) → HasParts x a b → HasParts (neg x) (neg a) (neg b)
parts_negative x a b h = record {
  fraction_a = record { num = neg_ℤ h.fraction_a.num; den = h.fraction_a.den };
  fraction_b = record { num = neg_ℤ h.fraction_b.num; den = h.fraction_b.den };
  is_a = fraction_negative a h.fraction_a h.is_a;
  is_b = fraction_negative b h.fraction_b h.is_b;
  same = ap neg h.same ∙ neg-parts a b (whole (negsuc 0)) root_3;
}

part_negative : (x : Number) → PartReaches x → PartReaches (neg x)
part_negative x p = (
  neg p.0,
  neg p.1,
  parts_negative x p.0 p.1 p.2,
  elim p.3 as (λ _. ReachesLimit (neg p.0) ⊎ ReachesLimit (neg p.1)) [
    | inl l ↦ inl (limit_negative p.0 l)
    | inr l ↦ inr (limit_negative p.1 l)
  ],
)

abbrev three : Number
three = whole (pos 3)

abbrev Steps : (a b c d : Number) → Type 0
Steps a b c d =
    ReachesLimit (mul a c) ⊎ ReachesLimit (mul b d) ⊎ ReachesLimit (mul three (mul b d))
    ⊎ ReachesLimit (add (mul a c) (mul three (mul b d)))
    ⊎ ReachesLimit (mul a d) ⊎ ReachesLimit (mul b c) ⊎ ReachesLimit (add (mul a d) (mul b c))

steps_negative : (a b c d : Number) → Steps a b c d → Steps (neg a) (neg b) c d
steps_negative a b c d s =
    let minus : Number = whole (negsuc 0) in
    let left : (x y : Number) → mul (neg x) y ≡ neg (mul x y) = λ x y. num_mul_assoc minus x y in
    let triple : mul three (mul (neg b) d) ≡ neg (mul three (mul b d)) = ap (mul three) (left b d) ∙ num_mul_left_comm three minus (mul b d) in
    let sum : (x y : Number) → add (neg x) (neg y) ≡ neg (add x y) = λ x y. sym (num_mul-add minus x y) in
    elim s as (λ _. Steps (neg a) (neg b) c d) [
      | inl l ↦ inl (limit_same (mul a c) _ (left a c) l)
      | inr (inl l) ↦ inr (inl (limit_same (mul b d) _ (left b d) l))
      | inr (inr (inl l)) ↦ inr (inr (inl (limit_same (mul three (mul b d)) _ triple l)))
      | inr (inr (inr (inl l))) ↦
          inr (inr (inr (inl (limit_same (add (mul a c) (mul three (mul b d))) _ ((λ n. add (left a c n) (triple n)) ∙ sum _ _) l))))
      | inr (inr (inr (inr (inl l)))) ↦ inr (inr (inr (inr (inl (limit_same (mul a d) _ (left a d) l)))))
      | inr (inr (inr (inr (inr (inl l))))) ↦ inr (inr (inr (inr (inr (inl (limit_same (mul b c) _ (left b c) l))))))
      | inr (inr (inr (inr (inr (inr l))))) ↦
          inr (inr (inr (inr (inr (inr (limit_same (add (mul a d) (mul b c)) _ ((λ n. add (left a d n) (left b c n)) ∙ sum _ _) l))))))
    ]

product_negative : (x y : Number) → ProductReaches x y → ProductReaches (neg x) y
product_negative x y p =
    (neg p.0, neg p.1, p.2, p.3, parts_negative x p.0 p.1 p.4, p.5, steps_negative p.0 p.1 p.2 p.3 p.6)

-- ---- signs
part_signed : (s : Sign) (x : Number) → PartReaches (signed s x) → PartReaches x
part_signed Plus x p = p
part_signed Minus x p = subst PartReaches (num_neg-neg x) (part_negative (neg x) p)

product_signed : (s : Sign) (x y : Number) → ProductReaches (signed s x) y → ProductReaches x y
product_signed Plus x y p = p
product_signed Minus x y p = subst (λ z. ProductReaches z y) (num_neg-neg x) (product_negative (neg x) y p)

sum_signed : (s : Sign) (f : Index → Number) (t : Tensor) (js : List Index) →
    sum_of (λ j. mul (signed s (f j)) (t j)) js ≡ signed s (sum_of (λ j. mul (f j) (t j)) js)
sum_signed Plus f t js = refl
sum_signed Minus f t [] = sym (signed_zero Minus)
sum_signed Minus f t (j ∷ js) =
    (λ n. add (num_mul_assoc (whole (negsuc 0)) (f j) (t j) n) (sum_signed Minus f t js n))
    ∙ sym (num_mul-add (whole (negsuc 0)) (mul (f j) (t j)) (sum_of (λ k. mul (f k) (t k)) js))

sums_grow : (r : ℕ) (s : Sign) (f : Index → Number) (t : Tensor) → SumGrows r (λ j. signed s (f j)) t → SumGrows r f t
sums_grow r s f t (inl p) = inl (p.0, p.1, product_signed s (f p.0) (t p.0) p.2)
sums_grow r s f t (inr p) =
    let js = take p.0 (indices r) in
    inr (p.0, part_signed s (sum_of (λ j. mul (f j) (t j)) js) (subst PartReaches (sum_signed s f t js) p.1))

-- ---- marks
twice : (a b : Sign) → times (times b a) b ≡ a
twice Plus Plus = refl
twice Plus Minus = refl
twice Minus Plus = refl
twice Minus Minus = refl

module _ (m p : Marks) (g : Operation) (a b : Sign) (e : sign m g ≡ signed a num_one) (f : sign p g ≡ signed b num_one) where
  factor_marks : (i j : Index) → factor m g i j ≡ signed (times b a) (factor p g i j)
  factor_marks i j =
      let x : Number = coefficient g i j in
      sym (signed_factor a x x (sign m g) e refl) ∙ ap (λ s. signed s x) (sym (twice a b)) ∙ sym (signed-signed (times b a) b x)
      ∙ ap (signed (times b a)) (signed_factor b x x (sign p g) f refl)

  factors : (i : Index) → factor m g i ≡ (λ j. signed (times b a) (factor p g i j))
  factors i = λ n j. factor_marks i j n

  pub grows_marks : (r : ℕ) (t : Tensor) → ActGrows m g r t → ActGrows p g r t
  grows_marks r t x = (x.0, x.1, sums_grow r (times b a) (factor p g x.0) t (subst (λ h. SumGrows r h t) (factors x.0) x.2))

  pub act_marks : (t : Tensor) (i : Index) → act m g t i ≡ signed (times b a) (act p g t i)
  act_marks t i =
      sym (sum_is_act m g t i) ∙ ap (λ (h : Index → Number). sum_of (λ j. mul (h j) (t j)) (indices (length i))) (factors i)
      ∙ sum_signed (times b a) (factor p g i) t (indices (length i)) ∙ ap (signed (times b a)) (sum_is_act p g t i)
