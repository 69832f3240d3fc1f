-- Products with a fraction, and sums with one more part.
--   rational-root   a fraction as a number a + b√3
--   product-unit    a product with 1 or -1
--   adds-first, adds-nothing    a part added to 0; a part 0
--   IsAdding        the sums after the first terms of a row
use Rattle.std.proofs.Common.{◌≡◌, ◌≢◌, ℕ, ◌+◌, ◌<◌, ◌⊎◌, inl, inr, Bool, true, false, ◌≤◌, List, length, map, take, set, refl, ap, sym, ◌∙◌, subst, arith, Result, Ok}
use Rattle.std.proofs.lemmas.List.{get_or-set_same, get_or-set_other, length-set, take_more, take_all}
use Rattle.std.proofs.lemmas.Bool.Decides.{nat_tests}
use Rattle.std.specs.Prelude.{◌==◌, if◌then◌else◌}
use lib.IntN.{ℤ, pos, negsuc}
use Rattle.tensor_defs.specs.Prelude.{IsRising, Number, Fraction, Root3, over, add, mul, neg, whole, num_zero, num_one, root_3, value_of}
use Rattle.tensor_defs.specs.Prelude.{PartReaches, ProductReaches, places_rise}
use Rattle.text_defs.specs.NumberTexts.{int_is, is_one}
use Rattle.number_laws.proofs.NumberLaws.{num_add-zero, num_mul-zero, num_zero-add, num_zero-mul, num_mul-one, num_mul_comm, num_neg-neg}
use Rattle.exact_frac.specs.Held.{IsHeld, IsHeldAs, zero_over_one}
use Rattle.exact_frac.proofs.Overs.{over-zero}
use Rattle.root3_num.specs.Answers.{IsExactProduct}
use Rattle.root3_num.specs.Roots.{AreHeld, IsHeldRoot, value_of_root}
use Rattle.root3_num.specs.declared.root.TooLarge.{TooLarge}
use Rattle.root3_num.proofs.Steps.{product-is, zero_held}
use Rattle.reduced_form.specs.declared.forms.Term.{Term}
use Rattle.reduced_form.specs.Forms.{term_of}
use Rattle.tensor_action.specs.Acting.{AddsPart, zero_root}
use Rattle.tensor_action.proofs.SumLaws.{held_calm, product_zero_calm, root-value}
use Rattle.tensor_laws.proofs.Unique.{fraction_one}
use Rattle.state_marks.specs.Sums.{AddsRow, AddsTerm, RowGrows, factor_in, form_term_at, root_at, sum_at}
use Rattle.state_marks.proofs.Factors.{factor-absent, factor-at, factor-other, factor-own, rising-before, same_or_other}

pub rational-root : (f : Fraction) → value_of_root (record { a = f; b = zero_over_one }) ≡ value_of f
rational-root f =
    ap (add (value_of f)) (ap (λ x. mul x root_3) (over-zero 1) ∙ num_zero-mul root_3) ∙ num_add-zero (value_of f)

-- ---- 1 and -1
same_nat : (d k : ℕ) → (d == k) ≡ true → d ≡ k
same_nat d k e = grind (arith, nat_tests)

whole_one : (n : ℤ) → int_is n 1 ≡ true → n ≡ pos 1
whole_one (pos n) h = ap pos (same_nat n 1 h)
whole_one (negsuc n) h = absurd (let clash : false ≡ true = h in cc)

parts_of_one : (n : ℤ) (d : ℕ) (b : Bool) → (d == 1) ≡ b → (if b then int_is n 1 else false) ≡ true →
    (n ≡ pos 1) × (d ≡ 1)
parts_of_one n d true e h = (whole_one n h, same_nat d 1 e)
parts_of_one n d false e h = absurd (let clash : false ≡ true = h in cc)

pub one_told : (f : Fraction) → is_one f ≡ true → value_of f ≡ num_one
one_told f h =
    let p = parts_of_one f.num f.den (f.den == 1) refl h in
    (λ i. over (p.0 i) (p.1 i)) ∙ fraction_one

pub minus_one_told : (f g : Fraction) → IsHeldAs (neg (value_of f)) g → is_one g ≡ true → value_of f ≡ neg num_one
minus_one_told f g h e = sym (num_neg-neg (value_of f)) ∙ ap neg (h.same ∙ one_told g e)

nothing_held : (x : Number) → x ≡ num_zero → IsHeldAs x zero_over_one
nothing_held x e = record { same = e ∙ zero_held.same; held = zero_held.held }

same_held : (x y : Number) (f : Fraction) → x ≡ y → IsHeldAs y f → IsHeldAs x f
same_held x y f e h = record { same = e ∙ h.same; held = h.held }

-- a number times a fraction, where both parts can be held
module _ (r : Root3) (held : AreHeld r) (f : Fraction) (small : IsHeld f) where
  abbrev x : Number
  x = value_of_root r

  pub product-unit : (ua ub : Fraction) → IsHeldAs (mul (value_of r.a) (value_of f)) ua →
      IsHeldAs (mul (value_of r.b) (value_of f)) ub →
      IsHeldRoot (mul x (value_of f)) (record { a = ua; b = ub }) × (ProductReaches x (value_of f) → ⊥)
  product-unit ua ub p q =
      let s : Root3 = record { a = f; b = zero_over_one } in
      let none : (y : Number) → mul y (value_of zero_over_one) ≡ num_zero = λ y. ap (mul y) (over-zero 1) ∙ num_mul-zero y in
      let three : mul (whole (pos 3)) (mul (value_of r.b) (value_of zero_over_one)) ≡ num_zero =
      ap (mul (whole (pos 3))) (none (value_of r.b)) ∙ num_mul-zero (whole (pos 3)) in
      let first : add (mul (value_of r.a) (value_of f)) (mul (whole (pos 3)) (mul (value_of r.b) (value_of zero_over_one)))
      ≡ mul (value_of r.a) (value_of f) = ap (add (mul (value_of r.a) (value_of f))) three ∙ num_add-zero _ in
      let last : add (mul (value_of r.a) (value_of zero_over_one)) (mul (value_of r.b) (value_of f))
      ≡ mul (value_of r.b) (value_of f) =
      ap (λ y. add y (mul (value_of r.b) (value_of f))) (none (value_of r.a)) ∙ num_zero-add _ in
      subst (λ y. IsHeldRoot (mul x y) (record { a = ua; b = ub }) × (ProductReaches x y → ⊥)) (rational-root f)
      (product-is r s held (record { held_a = small; held_b = zero_held.held }) ua zero_over_one zero_over_one ua zero_over_one ub ub p
      (nothing_held _ (none (value_of r.b))) (nothing_held _ three) (same_held _ _ ua first p)
      (nothing_held _ (none (value_of r.a))) q (same_held _ _ ub last q))

  pub times-one : value_of f ≡ num_one → IsExactProduct x (value_of f) (Ok r)
  times-one e = product-unit r.a r.b
      (record { same = ap (mul (value_of r.a)) e ∙ num_mul-one (value_of r.a); held = held.held_a })
      (record { same = ap (mul (value_of r.b)) e ∙ num_mul-one (value_of r.b); held = held.held_b })

  pub times-minus_one : (ua ub : Fraction) (v : Root3) → value_of f ≡ neg num_one → IsHeldAs (neg (value_of r.a)) ua →
      IsHeldAs (neg (value_of r.b)) ub → v ≡ record { a = ua; b = ub } → IsExactProduct x (value_of f) (Ok v)
  times-minus_one ua ub v e p q is =
      let minus : (y : Number) → mul y (value_of f) ≡ neg y = λ y.
      ap (mul y) (e ∙ num_mul-one (whole (negsuc 0))) ∙ num_mul_comm y (whole (negsuc 0)) in
      subst (λ w. IsExactProduct x (value_of f) (Ok w)) (sym is)
      (product-unit ua ub (same_held _ _ ua (minus (value_of r.a)) p) (same_held _ _ ub (minus (value_of r.b)) q))

pub times-fraction : (x : Number) (f : Fraction) (s : Root3) (r : Result Root3 TooLarge) →
    s ≡ record { a = f; b = zero_over_one } → IsExactProduct x (value_of_root s) r → IsExactProduct x (value_of f) r
times-fraction x f s r e h = subst (λ y. IsExactProduct x y r) (ap value_of_root e ∙ rational-root f) h

-- ---- parts
pub adds-first : (s x y : Number) (part : Root3) → s ≡ num_zero → IsExactProduct x y (Ok part) → AddsPart s x y (Ok part)
adds-first s x y part z h =
    let e : add s (mul x y) ≡ mul x y = ap (λ w. add w (mul x y)) z ∙ num_zero-add (mul x y) in
    (root-value (mul x y) part h.0 ∙ sym e, h.1, λ p. held_calm (mul x y) part h.0 (subst PartReaches e p))

adds-nothing : (s x y : Number) (v : Root3) → (PartReaches s → ⊥) → y ≡ num_zero → value_of_root v ≡ s → AddsPart s x y (Ok v)
adds-nothing s x y v calm z e =
    let same : add s (mul x y) ≡ s = ap (add s) (ap (mul x) z ∙ num_mul-zero x) ∙ num_add-zero s in
    (e ∙ sym same, product_zero_calm x y z, λ p. calm (subst PartReaches same p))

-- ---- the terms of a row, one after the other
pub record IsAdding (old : List Root3) (x : Number) (ts : List Term) (n : ℕ) (cur : List Root3) : Type 0 where
  pub len : length cur ≡ length old
  pub each : (k : ℕ) → k < length old → (PartReaches (sum_at old k) → ⊥) →
      AddsPart (sum_at old k) x (factor_in (take n ts) k) (Ok (root_at cur k))
  pub untouched : (k : ℕ) → k < length old → factor_in (take n ts) k ≡ num_zero → sum_at cur k ≡ sum_at old k

module _ (old : List Root3) (x : Number) (ts : List Term) where
  pub adding-start : IsAdding old x ts 0 old
  adding-start = record {
    len = refl;
    each = λ k h calm. adds-nothing (sum_at old k) x (factor_in (take 0 ts) k) (root_at old k) calm refl refl;
    untouched = λ k h z. refl;
  }

  pub adding-end : (n : ℕ) (cur : List Root3) → length ts ≤ n → IsAdding old x ts n cur → AddsRow old x ts cur
  adding-end n cur h a = record {
    len = a.len;
    each = λ k l calm.
        subst (λ us. AddsPart (sum_at old k) x (factor_in us k) (Ok (root_at cur k))) (take_all n ts h) (a.each k l calm);
  }

  module _ (rises : IsRising places_rise (map term_of ts)) (n : ℕ) (h : n < length ts) (cur : List Root3) (a : IsAdding old x ts n cur) where
    abbrev t : Term
    t = form_term_at ts n

    absent : factor_in (take n ts) t.free ≡ num_zero
    absent = factor-absent t.free (take n ts) (rising-before ts rises n h)

    own : factor_in (take (n + 1) ts) t.free ≡ value_of t.factor
    own =
        ap (λ us. factor_in us t.free) (take_more ts n (record { free = 0; factor = zero_over_one }) h)
        ∙ factor-own t.free (take n ts) t refl (rising-before ts rises n h)

    other : (k : ℕ) → t.free ≢ k → factor_in (take (n + 1) ts) k ≡ factor_in (take n ts) k
    other k e =
        ap (λ us. factor_in us k) (take_more ts n (record { free = 0; factor = zero_over_one }) h)
        ∙ factor-other k (take n ts) t e

    pub adding-grows : t.free < length old →
        ProductReaches x (value_of t.factor) ⊎ PartReaches (add (sum_at cur t.free) (mul x (value_of t.factor))) →
        RowGrows old x ts
    adding-grows l p =
        let whole : factor_in ts t.free ≡ value_of t.factor = factor-at ts rises n h in
        let was : sum_at cur t.free ≡ sum_at old t.free = a.untouched t.free l absent in
        record {
          place = t.free;
          within = l;
          reaches = elim p [
            | inl q ↦ inl (subst (ProductReaches x) (sym whole) q)
            | inr q ↦ inr (subst PartReaches (λ i. add (was i) (mul x (sym whole i))) q)
          ];
        }

    module _ (l : t.free < length old) (v : Root3) (part : AddsPart (sum_at cur t.free) x (value_of t.factor) (Ok v)) where
      within : t.free < length cur
      within = subst (λ k. t.free < k) (sym a.len) l

      was : sum_at cur t.free ≡ sum_at old t.free
      was = a.untouched t.free l absent

      here : AddsPart (sum_at old t.free) x (factor_in (take (n + 1) ts) t.free) (Ok (root_at (set cur t.free v) t.free))
      here =
          subst (λ w. AddsPart (sum_at old t.free) x (factor_in (take (n + 1) ts) t.free) (Ok w))
          (sym (get_or-set_same cur t.free v zero_root within))
          (subst (λ y. AddsPart (sum_at old t.free) x y (Ok v)) (sym own)
          (subst (λ s. AddsPart s x (value_of t.factor) (Ok v)) was part))

      still : factor_in (take (n + 1) ts) t.free ≡ num_zero → sum_at (set cur t.free v) t.free ≡ sum_at old t.free
      still z =
          ap value_of_root (get_or-set_same cur t.free v zero_root within) ∙ part.0
          ∙ ap (add (sum_at cur t.free)) (ap (mul x) (sym own ∙ z) ∙ num_mul-zero x) ∙ num_add-zero _ ∙ was

      kept : (k : ℕ) → t.free ≢ k → root_at (set cur t.free v) k ≡ root_at cur k
      kept k e = get_or-set_other cur t.free k v zero_root (λ s. e (sym s))

      pub adding-more : IsAdding old x ts (n + 1) (set cur t.free v)
      adding-more = record {
        len = length-set cur t.free v ∙ a.len;
        each = λ k m calm. elim (same_or_other t.free k) as
            (λ _. AddsPart (sum_at old k) x (factor_in (take (n + 1) ts) k) (Ok (root_at (set cur t.free v) k))) [
              | inl e ↦
                  subst (λ q. AddsPart (sum_at old q) x (factor_in (take (n + 1) ts) q) (Ok (root_at (set cur t.free v) q))) e here
              | inr e ↦
                  subst (λ w. AddsPart (sum_at old k) x (factor_in (take (n + 1) ts) k) (Ok w)) (sym (kept k e))
                  (subst (λ y. AddsPart (sum_at old k) x y (Ok (root_at cur k))) (sym (other k e)) (a.each k m calm))
            ];
        untouched = λ k m z. elim (same_or_other t.free k) as (λ _. sum_at (set cur t.free v) k ≡ sum_at old k) [
          | inl e ↦
              subst (λ q. factor_in (take (n + 1) ts) q ≡ num_zero → sum_at (set cur t.free v) q ≡ sum_at old q) e still z
          | inr e ↦ ap value_of_root (kept k e) ∙ a.untouched k m (sym (other k e) ∙ z)
        ];
      }

    pub adding-step : t.free < length old → (new : List Root3) → AddsTerm cur x t new → IsAdding old x ts (n + 1) new
    adding-step l new adds = subst (IsAdding old x ts (n + 1)) (sym adds.1) (adding-more l adds.0 adds.2)
