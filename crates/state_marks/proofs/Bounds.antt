-- No row of a state grows where each row of the table is empty or one free component with the factor 1 or -1: each
-- coefficient is (p + q√3)/2^r with small whole numbers p and q, and at most 3^r of them are added.
--   IsBounded       (p + q√3)/d with whole numbers p and q of a bounded magnitude
--   plain-calm      no row grows
use Rattle.list_laws.proofs.Kit.{◌≡◌, ℕ, zero, suc, ◌+◌, ◌*◌, ◌^◌, ◌<◌, ◌≤◌, ◌/◌, ◌%◌, ◌⊎◌, inl, inr, Bool, true, false, cond, List, [], ◌∷◌, length, take}
use Rattle.list_laws.proofs.Kit.{refl, ap, sym, ◌∙◌, subst, arith, lit<, mul-le-mul, one-le-pow, pow-le-pow_right, pow-succ', unsigned_abs-mul, leb-true}
use Rattle.std.specs.Prelude.{nat_le, nat_eq, unsigned_abs}
use lib.IntN.{ℤ, pos, negsuc, neg_ℤ, ◌+ℤ◌, ◌*ℤ◌, +ℤ_idr}
use Rattle.tensor_defs.specs.Prelude.{ring_ℤ, positive_mul, Each, Number, number_of, same_numbers, add, add_at, mul, mul_at, neg, whole, over, half_of}
use Rattle.tensor_defs.specs.Prelude.{num_zero, num_one, root_3, limit, HasParts, PartReaches, ProductReaches, ReachesLimit, Axis, x1, x2, x3, Entry, Row}
use Rattle.tensor_defs.specs.Prelude.{Operation, entry, in_row, value, StateRowGrows, factor_at, state_part, sum_of, Table, Index, Marks, axial_sign}
use Rattle.tensor_defs.specs.Prelude.{coefficient, indices, sign, time_sign}
use Rattle.list_laws.proofs.Prelude.{all_below, below_told, each_map, each_take, both}
use Rattle.number_laws.proofs.NumberLaws.{num_add-zero, num_zero-add, num_mul-zero, num_zero-mul, num_mul-one, num_one-mul, num_mul_comm, num_mul_assoc}
use Rattle.exact_frac.proofs.Divisors.{gcd-one}
use Rattle.number_laws.proofs.Fractions.{over-whole, zero_times}
use Rattle.number_laws.proofs.NumberLaws.{num_minus_one-mul}
use Rattle.exact_frac.proofs.Overs.{over-neg}
use Rattle.exact_frac.proofs.Signs.{size-neg}
use Rattle.exact_frac.proofs.Wide.{size-add}
use Rattle.root3_num.proofs.Lowering.{lowest-over}
use Rattle.root3_num.proofs.RootParts.{both-at, one-parts}
use Rattle.root3_num.proofs.Steps.{zero_has, zero_small}
use Rattle.op_matrix.specs.Table.{nth_operation, operation_at}
use Rattle.op_matrix.proofs.Determinants.{unit_determinant}
use Rattle.tensor_rank.proofs.DeterminantLaws.{one_down}
use Rattle.tensor_action.proofs.FactorLaws.{small-calm}
use Rattle.tensor_action.proofs.IndexPlaces.{length-indices}
use Rattle.tensor_action.proofs.SumLaws.{product_zero_calm}
use Rattle.answer_laws.proofs.Forms.{indices_of_rank}

pub record IsBounded (d b : ℕ) (x : Number) : Type 0 where
  pub p : ℤ
  pub q : ℤ
  pub positive : 0 < d
  pub small_p : unsigned_abs p ≤ b
  pub small_q : unsigned_abs q ≤ b
  pub same : x ≡ number_of (record { p = p; q = q; n = d; positive = positive })

bounded-weaker : (d b c : ℕ) (x : Number) → b ≤ c → IsBounded d b x → IsBounded d c x
bounded-weaker d b c x h k =
    let s = k.small_p in
    let t = k.small_q in
    record {
      p = k.p;
      q = k.q;
      positive = k.positive;
      small_p = omega (arith, h, s);
      small_q = omega (arith, h, t);
      same = k.same;
    }

bounded-along : (d b : ℕ) (x y : Number) → x ≡ y → IsBounded d b y → IsBounded d b x
bounded-along d b x y e k = record {
  p = k.p;
  q = k.q;
  positive = k.positive;
  small_p = k.small_p;
  small_q = k.small_q;
  same = e ∙ k.same;
}

bounded-zero : (d b : ℕ) → 0 < d → IsBounded d b num_zero
unfolding whole
bounded-zero d b h = record {
  p = pos 0;
  q = pos 0;
  positive = h;
  small_p = omega arith;
  small_q = omega arith;
  same = same_numbers _ _ (record { same_p = flat d; same_q = flat d });
}
  where
    flat : (d : ℕ) → pos 0 *ℤ pos d ≡ pos 0 *ℤ pos 1
    flat d = ap pos (omega arith)

bounded-one : IsBounded 1 1 num_one
unfolding whole
bounded-one = record {
  p = pos 1;
  q = pos 0;
  positive = lit< tt;
  small_p = omega arith;
  small_q = omega arith;
  same = same_numbers _ _ (record { same_p = refl; same_q = refl });
}

bounded-add : (d b c : ℕ) (x y : Number) → IsBounded d b x → IsBounded d c y → IsBounded d (b + c) (add x y)
bounded-add d b c x y h k =
    let s = size-add h.p k.p in
    let t = size-add h.q k.q in
    let u = h.small_p in
    let v = k.small_p in
    let w = h.small_q in
    let z = k.small_q in
    record {
      p = h.p +ℤ k.p;
      q = h.q +ℤ k.q;
      positive = h.positive;
      small_p = omega (arith, s, u, v);
      small_q = omega (arith, t, w, z);
      same = (λ i. add (h.same i) (k.same i)) ∙ add_at _ _
          ∙ same_numbers _ _ (record { same_p = law h.p k.p (pos d); same_q = law h.q k.q (pos d) });
    }
  where
    law : (p q d : ℤ) → ((p *ℤ d) +ℤ (q *ℤ d)) *ℤ d ≡ (p +ℤ q) *ℤ (d *ℤ d)
    law p q d = simp ring_ℤ

-- times an entry (a + b√3)/2
bounded-entry : (d c : ℕ) (a b : ℤ) (x : Number) → unsigned_abs a ≤ 2 → unsigned_abs b ≤ 1 → IsBounded d c x →
    IsBounded (2 * d) (5 * c) (mul (half_of a b) x)
unfolding half_of
bounded-entry d c a b x h k s =
    let three : unsigned_abs (pos 3 *ℤ (b *ℤ s.q)) ≤ 3 * (1 * c) =
    subst (λ n. n ≤ 3 * (1 * c)) (sym (unsigned_abs-mul (pos 3) (b *ℤ s.q) ∙ ap (λ n. 3 * n) (unsigned_abs-mul b s.q)))
    (mul-le-mul {n₁ = 3} {n₂ = 3} (omega arith) (mul-le-mul k s.small_q)) in
    let ap_ : unsigned_abs (a *ℤ s.p) ≤ 2 * c = subst (λ n. n ≤ 2 * c) (sym (unsigned_abs-mul a s.p)) (mul-le-mul h s.small_p) in
    let aq : unsigned_abs (a *ℤ s.q) ≤ 2 * c = subst (λ n. n ≤ 2 * c) (sym (unsigned_abs-mul a s.q)) (mul-le-mul h s.small_q) in
    let bp : unsigned_abs (b *ℤ s.p) ≤ 1 * c = subst (λ n. n ≤ 1 * c) (sym (unsigned_abs-mul b s.p)) (mul-le-mul k s.small_p) in
    let first = size-add (a *ℤ s.p) (pos 3 *ℤ (b *ℤ s.q)) in
    let second = size-add (a *ℤ s.q) (b *ℤ s.p) in
    record {
      p = (a *ℤ s.p) +ℤ (pos 3 *ℤ (b *ℤ s.q));
      q = (a *ℤ s.q) +ℤ (b *ℤ s.p);
      positive = positive_mul {m = 2} {n = d} (lit< tt) s.positive;
      small_p = omega (arith, three, ap_, first);
      small_q = omega (arith, aq, bp, second);
      same = ap (mul (number_of (record { p = a; q = b; n = 2; positive = lit< tt }))) s.same ∙ mul_at _ _
          ∙ same_numbers _ _ (record { same_p = refl; same_q = refl });
    }

pub neg_triple : (p q : ℤ) (d : ℕ) (h : 0 < d) → neg (number_of (record { p = p; q = q; n = d; positive = h }))
    ≡ number_of (record { p = negsuc 0 *ℤ p; q = negsuc 0 *ℤ q; n = d; positive = h })
unfolding whole
neg_triple p q d h = mul_at _ _ ∙ same_numbers _ _ (record { same_p = first p q d; same_q = second p q d })
  where
    nothing : (z : ℤ) → pos 0 *ℤ z ≡ pos 0
    nothing z = zero_times z

    first : (p q : ℤ) (d : ℕ) → ((negsuc 0 *ℤ p) +ℤ (pos 3 *ℤ (pos 0 *ℤ q))) *ℤ pos d ≡ (negsuc 0 *ℤ p) *ℤ pos (1 * d)
    first p q d =
        (λ i. ((negsuc 0 *ℤ p) +ℤ (pos 3 *ℤ nothing q i)) *ℤ pos d)
        ∙ (λ i. +ℤ_idr (negsuc 0 *ℤ p) i *ℤ pos (one d i))
      where
        one : (d : ℕ) → d ≡ 1 * d
        one d = omega arith

    second : (p q : ℤ) (d : ℕ) → ((negsuc 0 *ℤ q) +ℤ (pos 0 *ℤ p)) *ℤ pos d ≡ (negsuc 0 *ℤ q) *ℤ pos (1 * d)
    second p q d =
        (λ i. ((negsuc 0 *ℤ q) +ℤ nothing p i) *ℤ pos d)
        ∙ (λ i. +ℤ_idr (negsuc 0 *ℤ q) i *ℤ pos (one d i))
      where
        one : (d : ℕ) → d ≡ 1 * d
        one d = omega arith

bounded-neg : (d b : ℕ) (x : Number) → IsBounded d b x → IsBounded d b (neg x)
bounded-neg d b x s =
    let size : (z : ℤ) → unsigned_abs (negsuc 0 *ℤ z) ≡ unsigned_abs z = λ z.
    let e = unsigned_abs-mul (negsuc 0) z in omega (arith, e) in
    let ep = size s.p in
    let eq = size s.q in
    let sp = s.small_p in
    let sq = s.small_q in
    record {
      p = negsuc 0 *ℤ s.p;
      q = negsuc 0 *ℤ s.q;
      positive = s.positive;
      small_p = omega (arith, ep, sp);
      small_q = omega (arith, eq, sq);
      same = ap neg s.same ∙ neg_triple s.p s.q d s.positive;
    }

-- ---- bounded numbers are far below the limit
module _ (d b : ℕ) (low : d < limit) (small : b < limit) (x : Number) (h : IsBounded d b x) where
  own : HasParts x (over h.p d) (over h.q d)
  own =
      let f = lowest-over h.p d h.positive in
      let g = lowest-over h.q d h.positive in
      record {
        fraction_a = f.0;
        fraction_b = g.0;
        is_a = f.1;
        is_b = g.1;
        same = h.same ∙ same_numbers _ _ (record { same_p = law h.p d; same_q = law h.q d })
            ∙ sym (both-at h.p h.q d d h.positive h.positive);
      }
    where
      cross : (p d : ℤ) → p *ℤ (d *ℤ d) ≡ (p *ℤ d) *ℤ d
      cross p d = simp ring_ℤ

      law : (p : ℤ) (d : ℕ) → p *ℤ pos (d * d) ≡ (p *ℤ pos d) *ℤ pos d
      law p d = cross p (pos d)

  first_small : ReachesLimit (over h.p d) → ⊥
  first_small = let s = h.small_p in small-calm h.p d h.positive (omega (arith, s, small)) low

  second_small : ReachesLimit (over h.q d) → ⊥
  second_small = let s = h.small_q in small-calm h.q d h.positive (omega (arith, s, small)) low

  pub bounded-calm : PartReaches x → ⊥
  bounded-calm p =
      let e = one-parts x p.0 p.1 (over h.p d) (over h.q d) p.2 own in
      elim p.3 as (λ _. ⊥) [
        | inl l ↦ first_small (subst ReachesLimit e.0 l)
        | inr l ↦ second_small (subst ReachesLimit e.1 l)
      ]

  -- a product with a number whose parts are u and 0
  product-calm : (y u : Number) → HasParts y u num_zero → (ReachesLimit (mul (over h.p d) u) → ⊥) →
      (ReachesLimit (mul (over h.q d) u) → ⊥) → ProductReaches x y → ⊥
  product-calm y u has calm_a calm_b p =
      let a = p.0 in
      let b = p.1 in
      let c = p.2 in
      let z = p.3 in
      let e = one-parts x a b (over h.p d) (over h.q d) p.4 own in
      let f = one-parts y c z u num_zero p.5 has in
      let ac : mul a c ≡ mul (over h.p d) u = λ i. mul (e.0 i) (f.0 i) in
      let bc : mul b c ≡ mul (over h.q d) u = λ i. mul (e.1 i) (f.0 i) in
      let right : (w : Number) → mul w z ≡ num_zero = λ w. ap (mul w) f.1 ∙ num_mul-zero w in
      let three : mul (whole (pos 3)) (mul b z) ≡ num_zero = ap (mul (whole (pos 3))) (right b) ∙ num_mul-zero (whole (pos 3)) in
      let whole_a : add (mul a c) (mul (whole (pos 3)) (mul b z)) ≡ mul (over h.p d) u =
      (λ i. add (ac i) (three i)) ∙ num_add-zero _ in
      let whole_b : add (mul a z) (mul b c) ≡ mul (over h.q d) u = (λ i. add (right a i) (bc i)) ∙ num_zero-add _ in
      elim p.6 as (λ _. ⊥) [
        | inl l ↦ calm_a (subst ReachesLimit ac l)
        | inr (inl l) ↦ zero_small (mul b z) (right b) l
        | inr (inr (inl l)) ↦ zero_small (mul (whole (pos 3)) (mul b z)) three l
        | inr (inr (inr (inl l))) ↦ calm_a (subst ReachesLimit whole_a l)
        | inr (inr (inr (inr (inl l)))) ↦ zero_small (mul a z) (right a) l
        | inr (inr (inr (inr (inr (inl l))))) ↦ calm_b (subst ReachesLimit bc l)
        | inr (inr (inr (inr (inr (inr l))))) ↦ calm_b (subst ReachesLimit whole_b l)
      ]

-- ---- units
abbrev pub IsUnitNumber : Number → Type 0
IsUnitNumber x = (x ≡ num_zero) ⊎ (x ≡ num_one) ⊎ (x ≡ neg num_one)

whole_has : (p : ℤ) (y : Number) → unsigned_abs p ≡ 1 → y ≡ whole p → HasParts y y num_zero
whole_has p y size e = record {
  fraction_a = record { num = p; den = 1 };
  fraction_b = zero_has.fraction_b;
  is_a = record {
    same = e ∙ sym (over-whole p);
    terms = record { positive = lit< tt; lowest = gcd-one (unsigned_abs p) };
  };
  is_b = zero_has.is_b;
  same = sym (ap (add y) (num_zero-mul root_3) ∙ num_add-zero y);
}

module _ (d b : ℕ) (low : d < limit) (small : b < limit) (x : Number) (h : IsBounded d b x) where
  times_minus : (y : Number) → mul y (neg num_one) ≡ neg y
  times_minus y = ap (mul y) (num_mul-one (whole (negsuc 0))) ∙ num_mul_comm y (whole (negsuc 0))

  minus_small : (p : ℤ) → unsigned_abs p ≤ b → ReachesLimit (mul (over p d) (neg num_one)) → ⊥
  minus_small p s r =
      let e = size-neg p in
      small-calm (neg_ℤ p) d h.positive (omega (arith, e, s, small)) low
      (subst ReachesLimit (times_minus (over p d) ∙ over-neg p d h.positive) r)

  pub unit-calm : (y : Number) → IsUnitNumber y → ProductReaches x y → ⊥
  unit-calm y unit reaches = elim unit as (λ _. ⊥) [
    | inl z ↦ product_zero_calm x y z reaches
    | inr (inl one) ↦
        product-calm d b low small x h y num_one
        (subst (λ u. HasParts y u num_zero) one (whole_has (pos 1) y refl one))
        (λ r. first_small d b low small x h (subst ReachesLimit (num_mul-one (over h.p d)) r))
        (λ r. second_small d b low small x h (subst ReachesLimit (num_mul-one (over h.q d)) r)) reaches
    | inr (inr minus) ↦
        product-calm d b low small x h y (neg num_one)
        (subst (λ u. HasParts y u num_zero) minus (whole_has (negsuc 0) y refl (minus ∙ sym one_down)))
        (minus_small h.p h.small_p) (minus_small h.q h.small_q) reaches
  ]

  pub unit-times : (y : Number) → IsUnitNumber y → IsBounded d b (mul x y)
  unit-times y unit = elim unit as (λ _. IsBounded d b (mul x y)) [
    | inl z ↦ bounded-along d b (mul x y) num_zero (ap (mul x) z ∙ num_mul-zero x) (bounded-zero d b h.positive)
    | inr (inl one) ↦ bounded-along d b (mul x y) x (ap (mul x) one ∙ num_mul-one x) h
    | inr (inr minus) ↦ bounded-along d b (mul x y) (neg x) (ap (mul x) minus ∙ times_minus x) (bounded-neg d b x h)
  ]

-- ---- entries of operations
abbrev small : Entry → Bool
small e = cond (nat_le (unsigned_abs e.rational) 2) (nat_le (unsigned_abs e.root) 1) false

abbrev row_small : Row → Bool
row_small r = cond (small r.first) (cond (small r.second) (small r.third) false) false

abbrev all_small : Operation → Bool
all_small g = cond (row_small g.row_1) (cond (row_small g.row_2) (row_small g.row_3) false) false

row_told : (r : Row) → row_small r ≡ true → (j : Axis) → small (in_row r j) ≡ true
row_told r e x1 = (both (small r.first) (cond (small r.second) (small r.third) false) e).0
row_told r e x2 = (both (small r.second) (small r.third) (both (small r.first) (cond (small r.second) (small r.third) false) e).1).0
row_told r e x3 = (both (small r.second) (small r.third) (both (small r.first) (cond (small r.second) (small r.third) false) e).1).1

entry_told : (g : Operation) → all_small g ≡ true → (i j : Axis) → small (entry g i j) ≡ true
entry_told g e x1 j = row_told g.row_1 (both (row_small g.row_1) (cond (row_small g.row_2) (row_small g.row_3) false) e).0 j
entry_told g e x2 j =
    row_told g.row_2 (both (row_small g.row_2) (row_small g.row_3) (both (row_small g.row_1) (cond (row_small g.row_2) (row_small g.row_3) false) e).1).0 j
entry_told g e x3 j =
    row_told g.row_3 (both (row_small g.row_2) (row_small g.row_3) (both (row_small g.row_1) (cond (row_small g.row_2) (row_small g.row_3) false) e).1).1 j

abbrev pub HasSmallEntries : Operation → Type 0
HasSmallEntries g = (i j : Axis) → (unsigned_abs (entry g i j).rational ≤ 2) × (unsigned_abs (entry g i j).root ≤ 1)

told_small : (e : Entry) → small e ≡ true → (unsigned_abs e.rational ≤ 2) × (unsigned_abs e.root ≤ 1)
told_small e h =
    let p = both (nat_le (unsigned_abs e.rational) 2) (nat_le (unsigned_abs e.root) 1) h in
    (leb-true (unsigned_abs e.rational) 2 p.0, leb-true (unsigned_abs e.root) 1 p.1)

all_told : all_below 64 (λ n. all_small (operation_at n true)) ≡ true
unfolding operation_at
all_told = refl

marks_aside : (n : ℕ) (p : Bool) → all_small (operation_at n p) ≡ all_small (operation_at n true)
unfolding operation_at
marks_aside n p = refl

pub entries_small : (g : Operation) (k : ℕ) → k < 128 → g ≡ nth_operation k → HasSmallEntries g
unfolding nth_operation
entries_small g k h e i j =
    let n : k / 2 < 64 = omega (arith, h) in
    let at = operation_at (k / 2) (nat_eq (k % 2) 1) in
    let t : all_small at ≡ true =
    marks_aside (k / 2) (nat_eq (k % 2) 1) ∙ below_told 64 (λ n. all_small (operation_at n true)) all_told (k / 2) n in
    told_small (entry g i j) (entry_told g (ap all_small e ∙ t) i j)

-- ---- coefficients
coefficient-bounded : (g : Operation) → HasSmallEntries g → (is js : Index) →
    IsBounded (2 ^ length is) (5 ^ length is) (coefficient g is js)
unfolding value
coefficient-bounded g s [] [] = bounded-one
coefficient-bounded g s [] (j ∷ js) = bounded-zero 1 1 (lit< tt)
coefficient-bounded g s (i ∷ is) [] = bounded-zero (2 ^ suc (length is)) (5 ^ suc (length is)) (one-le-pow (suc (length is)) 2 (lit< tt))
coefficient-bounded g s (i ∷ is) (j ∷ js) =
    let n = length is in
    let d : 2 * 2 ^ n ≡ 2 ^ suc n = sym (pow-succ' 2 n) in
    let b : 5 * 5 ^ n ≡ 5 ^ suc n = sym (pow-succ' 5 n) in
    subst (λ x. IsBounded x (5 ^ suc n) (coefficient g (i ∷ is) (j ∷ js))) d
    (subst (λ x. IsBounded (2 * 2 ^ n) x (coefficient g (i ∷ is) (j ∷ js))) b
    (bounded-entry (2 ^ n) (5 ^ n) (entry g i j).rational (entry g i j).root (coefficient g is js) (s i j).0 (s i j).1
    (coefficient-bounded g s is js)))

abbrev IsSignNumber : Number → Type 0
IsSignNumber x = (x ≡ num_one) ⊎ (x ≡ neg num_one)

time_unit : (a p : Bool) → IsSignNumber (time_sign a p)
time_unit true true = inr refl
time_unit true false = inl refl
time_unit false p = inl refl

axial_unit : (a : Bool) (g : Operation) (k : ℕ) → k < 128 → g ≡ nth_operation k → IsSignNumber (axial_sign a g)
axial_unit true g k h e = elim (unit_determinant g k h e) [ inl u ↦ inl u | inr u ↦ inr (u ∙ one_down) ]
axial_unit false g k h e = inl refl

sign_times : (d b : ℕ) (s x : Number) → IsSignNumber s → IsBounded d b x → IsBounded d b (mul s x)
sign_times d b s x (inl e) h = bounded-along d b (mul s x) x (ap (λ m. mul m x) e ∙ num_one-mul x) h
sign_times d b s x (inr e) h = bounded-along d b (mul s x) (neg x) (ap (λ m. mul m x) e ∙ num_minus_one-mul x) (bounded-neg d b x h)

signed-bounded : (m : Marks) (g : Operation) (k : ℕ) → k < 128 → g ≡ nth_operation k → (d b : ℕ) (x : Number) → IsBounded d b x →
    IsBounded d b (mul (sign m g) x)
unfolding sign
signed-bounded m g k h e d b x s =
    bounded-along d b (mul (mul (axial_sign m.axial g) (time_sign m.magnetic g.primed)) x)
    (mul (axial_sign m.axial g) (mul (time_sign m.magnetic g.primed) x)) (num_mul_assoc _ _ x)
    (sign_times d b (axial_sign m.axial g) (mul (time_sign m.magnetic g.primed) x) (axial_unit m.axial g k h e)
    (sign_times d b (time_sign m.magnetic g.primed) x (time_unit m.magnetic g.primed) s))

-- ---- sums
sum-bounded : (d b : ℕ) → 0 < d → (f : Index → Number) (js : List Index) → Each (λ j. IsBounded d b (f j)) js →
    IsBounded d (b * length js) (sum_of f js)
sum-bounded d b h f [] e = bounded-zero d (b * 0) h
sum-bounded d b h f (j ∷ js) e =
    let more : b + b * length js ≡ b * suc (length js) = omega arith in
    subst (λ c. IsBounded d c (sum_of f (j ∷ js))) more
    (bounded-add d b (b * length js) (f j) (sum_of f js) e.0 (sum-bounded d b h f js e.1))

length_take : {X : Type 0} (xs : List X) (n : ℕ) → length (take n xs) ≤ length xs
length_take [] zero = omega arith
length_take [] (suc n) = omega arith
length_take (x ∷ xs) zero = omega arith
length_take (x ∷ xs) (suc n) = let h = length_take xs n in omega (arith, h)

-- each row of the table is empty or one free component with the factor 1 or -1
abbrev pub HasUnits : ℕ → Table → Type 0
HasUnits r a = (c : Index) → length c ≡ r → (k : ℕ) → IsUnitNumber (factor_at (a.terms c) k)

module _ (m : Marks) (g : Operation) (place : ℕ) (below : place < 128) (at : g ≡ nth_operation place) (r : ℕ) (rank : r ≤ 6) where
  low : 2 ^ r < limit
  low = let t : 2 ^ r ≤ 2 ^ 6 = pow-le-pow_right {n = 2} (lit< tt) {i = r} {j = 6} rank in omega (arith, t)

  few : 3 ^ r ≤ 729
  few = pow-le-pow_right {n = 3} (lit< tt) {i = r} {j = 6} rank

  five : 5 ^ r ≤ 15625
  five = pow-le-pow_right {n = 5} (lit< tt) {i = r} {j = 6} rank

  high : 5 ^ r < limit
  high = let t = five in omega (arith, t)

  module _ (i : Index) (l : length i ≡ r) where
    bounded : (j : Index) → IsBounded (2 ^ r) (5 ^ r) (mul (sign m g) (coefficient g i j))
    bounded j =
        signed-bounded m g place below at (2 ^ r) (5 ^ r) (coefficient g i j)
        (subst (λ n. IsBounded (2 ^ n) (5 ^ n) (coefficient g i j)) l
        (coefficient-bounded g (entries_small g place below at) i j))

    module _ (a : Table) (units : HasUnits r a) (k : ℕ) where
      part-bounded : (j : Index) → length j ≡ r → IsBounded (2 ^ r) (5 ^ r) (state_part m g a i k j)
      part-bounded j e =
          unit-times (2 ^ r) (5 ^ r) low high (mul (sign m g) (coefficient g i j)) (bounded j) (factor_at (a.terms j) k) (units j e k)

      sum-calm : (n : ℕ) → PartReaches (sum_of (state_part m g a i k) (take n (indices r))) → ⊥
      sum-calm n reaches =
          let js = take n (indices r) in
          let parts : Each (λ j. IsBounded (2 ^ r) (5 ^ r) (state_part m g a i k j)) js =
          each_take (λ j. IsBounded (2 ^ r) (5 ^ r) (state_part m g a i k j)) (indices r) n
          (each_map (λ c. length c ≡ r) (λ j. IsBounded (2 ^ r) (5 ^ r) (state_part m g a i k j)) part-bounded (indices r)
          (indices_of_rank r)) in
          let short = length_take (indices r) n in
          let all = length-indices r in
          let some = few in
          let count : length js ≤ 729 = omega (arith, short, all, some) in
          let many : 5 ^ r * length js ≤ 15625 * 729 = mul-le-mul five count in
          bounded-calm (2 ^ r) (5 ^ r * length js) low (omega (arith, many)) (sum_of (state_part m g a i k) js)
          (sum-bounded (2 ^ r) (5 ^ r) (one-le-pow r 2 (lit< tt)) (state_part m g a i k) js parts) reaches

      part-calm : (j : Index) → length j ≡ r → ProductReaches (mul (sign m g) (coefficient g i j)) (factor_at (a.terms j) k) → ⊥
      part-calm j e reaches =
          unit-calm (2 ^ r) (5 ^ r) low high (mul (sign m g) (coefficient g i j)) (bounded j) (factor_at (a.terms j) k) (units j e k) reaches

    pub plain-calm : (a : Table) → HasUnits r a → StateRowGrows m g a r i → ⊥
    plain-calm a units (k, h, inl p) = part-calm a units k p.0 p.1 p.2
    plain-calm a units (k, h, inr p) = sum-calm a units k p.0 p.1
