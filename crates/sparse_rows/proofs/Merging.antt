-- Two rows, entry by entry.
--   coeff-small    each coefficient of a row is 0 or one of its fractions
--   IsMerging, merge-start, below_head, below_tail, merge-left, merge-right ..
--       what is left of both rows, and what is made so far
--   above-at, at-left, at-right, heads-at, right-head ..    the steps, at places of both rows
use Rattle.std.proofs.Common.{length, get_or, drop, ◌≡◌, ◌≢◌, ℕ, ◌+◌, ◌<◌, ◌≤◌, ◌⊎◌, inl, inr, List, [], ◌∷◌, ◌++◌, refl, ap, sym, ◌∙◌, subst, arith, lit<, nat_eq, cond}
use Rattle.std.proofs.lemmas.Bool.{cases_eq, eq-eqb, ne_eqb}
use Rattle.tensor_defs.specs.Prelude.{Number, add, mul, neg, num_zero, whole, ReachesLimit, value_of, Fraction, Line, minus_times, TimesGrows, Each}
use Rattle.number_laws.proofs.NumberLaws.{num_add-zero, num_zero-add, num_mul-zero, num_add_assoc, num_add_comm, num_neg-neg, ring}
use Rattle.sparse_rows.proofs.Lines.{minus_none, undo}
use Rattle.exact_frac.specs.Held.{inverse_of, IsHeld, zero_over_one}
use Rattle.exact_frac.proofs.Parts.{inverse-mul, held-below}
use Rattle.exact_frac.proofs.Divisors.{gcd-one}
use Rattle.exact_frac.proofs.Overs.{over-zero}
use Rattle.sparse_rows.specs.Rows.{part, coeff, Above, IsEntry, IsRow, IsDifference, IsNegative, DifferenceGrows}
use Rattle.std.specs.Prelude.{Result, Ok, Err, IfErr}
use Rattle.std.proofs.lemmas.List.{drop_all}
use Rattle.list_laws.proofs.Prelude.{drop_head, each_map, each_push}
use Rattle.sparse_rows.specs.declared.entry.EliminateFault.{EliminateFault}
use Rattle.sparse_rows.specs.declared.entry.EliminateFault.TheVariants.{TooLarge}
use Rattle.sparse_rows.specs.declared.entry.Entry.{Entry}

pub part-own : (e : Entry) (u : ℕ) → u ≡ e.unknown → part e u ≡ value_of e.value
unfolding part
part-own e u h = ap (λ k. cond (nat_eq k e.unknown) (value_of e.value) num_zero) h ∙ ap (λ b. cond b (value_of e.value) num_zero) (eq-eqb e.unknown e.unknown refl)

pub part-other : (e : Entry) (u : ℕ) → u ≢ e.unknown → part e u ≡ num_zero
unfolding part
part-other e u h = ap (λ b. cond b (value_of e.value) num_zero) (ne_eqb u e.unknown h)

pub coeff-above : (es : List Entry) (u : ℕ) → Above u es → coeff es u ≡ num_zero
coeff-above [] u h = refl
coeff-above (e ∷ es) u h = (λ i. add (part-other e u (λ p. omega (arith, p, h.0)) i) (coeff-above es u h.1 i)) ∙ num_add-zero num_zero

pub coeff-below : (es : List Entry) (u : ℕ) → Each (λ e. e.unknown < u) es → coeff es u ≡ num_zero
coeff-below [] u h = refl
coeff-below (e ∷ es) u h = (λ i. add (part-other e u (λ p. omega (arith, p, h.0)) i) (coeff-below es u h.1 i)) ∙ num_add-zero num_zero

pub coeff-head : (e : Entry) (es : List Entry) (u : ℕ) → u ≡ e.unknown → Above e.unknown es → coeff (e ∷ es) u ≡ value_of e.value
coeff-head e es u p h = (λ i. add (part-own e u p i) (coeff-above es u (subst (λ k. Above k es) (sym p) h) i)) ∙ num_add-zero _

pub coeff-tail : (e : Entry) (es : List Entry) (u : ℕ) → u ≢ e.unknown → coeff (e ∷ es) u ≡ coeff es u
coeff-tail e es u p = ap (λ x. add x (coeff es u)) (part-other e u p) ∙ num_zero-add (coeff es u)

pub coeff-snoc : (es : List Entry) (e : Entry) (u : ℕ) → coeff (es ++ e ∷ []) u ≡ add (coeff es u) (part e u)
coeff-snoc [] e u = num_add_comm (part e u) num_zero
coeff-snoc (x ∷ es) e u = ap (add (part x u)) (coeff-snoc es e u) ∙ sym (num_add_assoc (part x u) (coeff es u) (part e u))

zero-held : IsHeld zero_over_one
zero-held = record {
  terms = record { positive = lit< tt; lowest = gcd-one 0 };
  small_num = lit< tt;
  small_den = lit< tt;
}

pub zero-small : ReachesLimit num_zero → ⊥
zero-small r = held-below zero_over_one zero-held (subst ReachesLimit (sym (over-zero 1)) r)

-- each coefficient of a row is 0 or one of its fractions
pub coeff-small : (es : List Entry) (u : ℕ) → IsRow es → ReachesLimit (coeff es u) → ⊥
coeff-small [] u h r = zero-small r
coeff-small (e ∷ es) u h r = elim (cases_eq u e.unknown) [
  | inl p ↦ held-below e.value h.1.held (subst ReachesLimit (coeff-head e es u p h.0) r)
  | inr p ↦ coeff-small es u h.2 (subst ReachesLimit (coeff-tail e es u p) r)
]

pub above_less : (k m : ℕ) (es : List Entry) → k < m → Above m es → Above k es
above_less k m es h = each_map (λ e. m < e.unknown) (λ e. k < e.unknown) (λ e p. omega (arith, h, p)) es

pub row_snoc : (es : List Entry) (e : Entry) → IsRow es → Each (λ x. x.unknown < e.unknown) es → IsEntry e → IsRow (es ++ e ∷ [])
row_snoc [] e r b z = (tt, z, tt)
row_snoc (x ∷ es) e r b z = (each_push (λ y. x.unknown < y.unknown) es e r.0 b.0, r.1, row_snoc es e r.2 b.1 z)

-- ---- what is left of both rows, and what is made so far
pub record IsMerging (ρ : Line) (f : Number) (σ : Line) (A B out : List Entry) : Type 0 where
  pub sum : (u : ℕ) → minus_times ρ f σ u ≡ add (coeff out u) (minus_times (coeff A) f (coeff B) u)
  pub row_a : IsRow A
  pub row_b : IsRow B
  pub row_out : IsRow out
  pub below_a : Each (λ e. Above e.unknown A) out
  pub below_b : Each (λ e. Above e.unknown B) out
  pub left : (u : ℕ) → (σ u ≡ coeff B u) ⊎ (Above u B × (ReachesLimit (mul f (σ u)) → ⊥))

pub merge-start : (A B : List Entry) (f : Number) → IsRow A → IsRow B → IsMerging (coeff A) f (coeff B) A B []
merge-start A B f a b = record {
  sum = λ u. sym (num_zero-add _);
  row_a = a;
  row_b = b;
  row_out = tt;
  below_a = tt;
  below_b = tt;
  left = λ u. inl refl;
}

pub below_head : (a : Entry) (A out : List Entry) → Each (λ e. Above e.unknown (a ∷ A)) out → Each (λ e. e.unknown < a.unknown) out
below_head a A out = each_map (λ e. Above e.unknown (a ∷ A)) (λ e. e.unknown < a.unknown) (λ e h. h.0) out

pub below_tail : (a : Entry) (A out : List Entry) → Each (λ e. Above e.unknown (a ∷ A)) out → Each (λ e. Above e.unknown A) out
below_tail a A out = each_map (λ e. Above e.unknown (a ∷ A)) (λ e. Above e.unknown A) (λ e h. h.1) out

pub merge-left : (ρ : Line) (f : Number) (σ : Line) (a : Entry) (A B out : List Entry) → IsMerging ρ f σ (a ∷ A) B out → Above a.unknown B → IsMerging ρ f σ A B (out ++ a ∷ [])
merge-left ρ f σ a A B out m h = record {
  sum = λ u. m.sum u ∙ law (coeff out u) (part a u) (coeff A u) (neg (mul f (coeff B u))) ∙ ap (λ x. add x (minus_times (coeff A) f (coeff B) u)) (sym (coeff-snoc out a u));
  row_a = m.row_a.2;
  row_b = m.row_b;
  row_out = row_snoc out a m.row_out (below_head a A out m.below_a) m.row_a.1;
  below_a = each_push (λ e. Above e.unknown A) out a (below_tail a A out m.below_a) m.row_a.0;
  below_b = each_push (λ e. Above e.unknown B) out a m.below_b h;
  left = m.left;
}
  where
    law : (o p a b : Number) → add o (add (add p a) b) ≡ add (add o p) (add a b)
    law o p a b = simp ring

step_left : (f : Number) (σ : Line) (b : Entry) (B : List Entry) → Above b.unknown B → ((u : ℕ) → (σ u ≡ coeff (b ∷ B) u) ⊎ (Above u (b ∷ B) × (ReachesLimit (mul f (σ u)) → ⊥))) → (ReachesLimit (mul f (value_of b.value)) → ⊥)
    → (u : ℕ) → (σ u ≡ coeff B u) ⊎ (Above u B × (ReachesLimit (mul f (σ u)) → ⊥))
step_left f σ b B h left calm u = elim (left u) [
  | inl e ↦ elim (cases_eq u b.unknown) [
    | inl p ↦ inr (subst (λ k. Above k B) (sym p) h, λ r. calm (subst (λ x. ReachesLimit (mul f x)) (e ∙ coeff-head b B u p h) r))
    | inr p ↦ inl (e ∙ coeff-tail b B u p)
  ]
  | inr k ↦ inr (k.0.1, k.1)
]

-- the entry that is put gives what the heads give
part_is : (e : Entry) (k : ℕ) (x : Number) (P : ℕ → Number) → e.unknown ≡ k → ((u : ℕ) → u ≡ k → P u ≡ x) → ((u : ℕ) → u ≢ k → P u ≡ num_zero) → value_of e.value ≡ x → (u : ℕ) → part e u ≡ P u
part_is e k x P h own other v u = elim (cases_eq u k) [
  | inl p ↦ part-own e u (p ∙ sym h) ∙ v ∙ sym (own u p)
  | inr p ↦ part-other e u (λ q. p (q ∙ h)) ∙ sym (other u p)
]

pub merge-right : (ρ : Line) (f : Number) (σ : Line) (b e : Entry) (A B out : List Entry) → IsMerging ρ f σ A (b ∷ B) out → Above b.unknown A
    → (ReachesLimit (mul f (value_of b.value)) → ⊥) → e.unknown ≡ b.unknown → value_of e.value ≡ neg (mul f (value_of b.value)) → IsEntry e → IsMerging ρ f σ A B (out ++ e ∷ [])
merge-right ρ f σ b e A B out m h calm p v z = record {
  sum = λ u. m.sum u ∙ law (whole _) f (coeff out u) (part b u) (coeff A u) (coeff B u)
      ∙ (λ i. add (add (coeff out u) (sym (put u) i)) (minus_times (coeff A) f (coeff B) u))
      ∙ ap (λ x. add x (minus_times (coeff A) f (coeff B) u)) (sym (coeff-snoc out e u));
  row_a = m.row_a;
  row_b = m.row_b.2;
  row_out = row_snoc out e m.row_out (subst (λ k. Each (λ x. x.unknown < k) out) (sym p) (below_head b B out m.below_b)) z;
  below_a = each_push (λ x. Above x.unknown A) out e m.below_a (subst (λ k. Above k A) (sym p) h);
  below_b = each_push (λ x. Above x.unknown B) out e (below_tail b B out m.below_b) (subst (λ k. Above k B) (sym p) m.row_b.0);
  left = step_left f σ b B m.row_b.0 m.left calm;
}
  where
    law : (n f o p a b : Number) → add o (add a (mul n (mul f (add p b)))) ≡ add (add o (mul n (mul f p))) (add a (mul n (mul f b)))
    law n f o p a b = simp ring

    put : (u : ℕ) → part e u ≡ neg (mul f (part b u))
    put = part_is e b.unknown (neg (mul f (value_of b.value))) (λ u. neg (mul f (part b u))) p (λ u q. ap (λ x. neg (mul f x)) (part-own b u q)) (λ u q. ap (λ x. neg (mul f x)) (part-other b u q) ∙ ap neg (num_mul-zero f) ∙ num_mul-zero _) v

law_both : (n f o p q a b : Number) → add o (add (add p a) (mul n (mul f (add q b)))) ≡ add (add o (add p (mul n (mul f q)))) (add a (mul n (mul f b)))
law_both n f o p q a b = simp ring

both_own : (f : Number) (a b : Entry) (u : ℕ) → a.unknown ≡ b.unknown → u ≡ a.unknown → add (part a u) (neg (mul f (part b u))) ≡ add (value_of a.value) (neg (mul f (value_of b.value)))
both_own f a b u p q = λ i. add (part-own a u q i) (neg (mul f (part-own b u (q ∙ p) i)))

both_other : (f : Number) (a b : Entry) (u : ℕ) → a.unknown ≡ b.unknown → u ≢ a.unknown → add (part a u) (neg (mul f (part b u))) ≡ num_zero
both_other f a b u p q = (λ i. add (part-other a u q i) (neg (mul f (part-other b u (λ r. q (r ∙ sym p)) i)))) ∙ minus_none num_zero f

pub merge-both : (ρ : Line) (f : Number) (σ : Line) (a b e : Entry) (A B out : List Entry) → IsMerging ρ f σ (a ∷ A) (b ∷ B) out → a.unknown ≡ b.unknown
    → (ReachesLimit (mul f (value_of b.value)) → ⊥) → e.unknown ≡ a.unknown → value_of e.value ≡ add (value_of a.value) (neg (mul f (value_of b.value))) → IsEntry e → IsMerging ρ f σ A B (out ++ e ∷ [])
merge-both ρ f σ a b e A B out m h calm p v z = record {
  sum = λ u. m.sum u ∙ law_both (whole _) f (coeff out u) (part a u) (part b u) (coeff A u) (coeff B u)
      ∙ (λ i. add (add (coeff out u) (sym (put u) i)) (minus_times (coeff A) f (coeff B) u))
      ∙ ap (λ x. add x (minus_times (coeff A) f (coeff B) u)) (sym (coeff-snoc out e u));
  row_a = m.row_a.2;
  row_b = m.row_b.2;
  row_out = row_snoc out e m.row_out (subst (λ k. Each (λ x. x.unknown < k) out) (sym p) (below_head a A out m.below_a)) z;
  below_a = each_push (λ x. Above x.unknown A) out e (below_tail a A out m.below_a) (subst (λ k. Above k A) (sym p) m.row_a.0);
  below_b = each_push (λ x. Above x.unknown B) out e (below_tail b B out m.below_b) (subst (λ k. Above k B) (sym (p ∙ h)) m.row_b.0);
  left = step_left f σ b B m.row_b.0 m.left calm;
}
  where
    put : (u : ℕ) → part e u ≡ add (part a u) (neg (mul f (part b u)))
    put = part_is e a.unknown (add (value_of a.value) (neg (mul f (value_of b.value)))) (λ u. add (part a u) (neg (mul f (part b u)))) p (λ u q. both_own f a b u h q) (λ u q. both_other f a b u h q) v

pub merge-none : (ρ : Line) (f : Number) (σ : Line) (a b : Entry) (A B out : List Entry) → IsMerging ρ f σ (a ∷ A) (b ∷ B) out → a.unknown ≡ b.unknown
    → (ReachesLimit (mul f (value_of b.value)) → ⊥) → add (value_of a.value) (neg (mul f (value_of b.value))) ≡ num_zero → IsMerging ρ f σ A B out
merge-none ρ f σ a b A B out m h calm v = record {
  sum = λ u. m.sum u ∙ law_both (whole _) f (coeff out u) (part a u) (part b u) (coeff A u) (coeff B u)
      ∙ (λ i. add (add (coeff out u) (gone u i)) (minus_times (coeff A) f (coeff B) u))
      ∙ ap (λ x. add x (minus_times (coeff A) f (coeff B) u)) (num_add-zero (coeff out u));
  row_a = m.row_a.2;
  row_b = m.row_b.2;
  row_out = m.row_out;
  below_a = below_tail a A out m.below_a;
  below_b = below_tail b B out m.below_b;
  left = step_left f σ b B m.row_b.0 m.left calm;
}
  where
    gone : (u : ℕ) → add (part a u) (neg (mul f (part b u))) ≡ num_zero
    gone u = elim (cases_eq u a.unknown) [
      | inl q ↦ both_own f a b u h q ∙ v
      | inr q ↦ both_other f a b u h q
    ]

pub merge-end : (ρ : Line) (f : Number) (σ : Line) (out : List Entry) → IsMerging ρ f σ [] [] out → IsDifference ρ f σ out
merge-end ρ f σ out m = record {
  is_row = m.row_out;
  same = same;
  calm = λ g. elim g.reaches [
    | inl r ↦ elim (m.left g.place) [
      | inl e ↦ zero-small (subst ReachesLimit (ap (mul f) e ∙ num_mul-zero f) r)
      | inr k ↦ k.1 r
    ]
    | inr r ↦ coeff-small out g.place m.row_out (subst ReachesLimit (sym (same g.place)) r)
  ];
}
  where
    same : (u : ℕ) → coeff out u ≡ minus_times ρ f σ u
    same u = sym (m.sum u ∙ ap (add (coeff out u)) (minus_none num_zero f) ∙ num_add-zero (coeff out u))

pub grow-product : (ρ : Line) (f : Number) (σ : Line) (b : Entry) (A B out : List Entry) → IsMerging ρ f σ A (b ∷ B) out → ReachesLimit (mul f (value_of b.value)) → TimesGrows ρ f σ
grow-product ρ f σ b A B out m r = elim (m.left b.unknown) [
  | inl e ↦ record { place = b.unknown; reaches = inl (subst (λ x. ReachesLimit (mul f x)) (sym (e ∙ coeff-head b B b.unknown refl m.row_b.0)) r) }
  | inr k ↦ let h = k.0.0 in absurd (omega (arith, h))
]

pub grow-difference : (ρ : Line) (f : Number) (σ : Line) (a b : Entry) (A B out : List Entry) → IsMerging ρ f σ (a ∷ A) (b ∷ B) out → a.unknown ≡ b.unknown → ReachesLimit (add (value_of a.value) (neg (mul f (value_of b.value)))) → TimesGrows ρ f σ
grow-difference ρ f σ a b A B out m h r = record { place = a.unknown; reaches = inr (subst ReachesLimit (sym it) r) }
  where
    it : minus_times ρ f σ a.unknown ≡ add (value_of a.value) (neg (mul f (value_of b.value)))
    it = m.sum a.unknown
        ∙ (λ i. add (coeff-below out a.unknown (below_head a A out m.below_a) i) (add (coeff-head a A a.unknown refl m.row_a.0 i) (neg (mul f (coeff-head b B a.unknown h m.row_b.0 i)))))
        ∙ num_zero-add _

pub mul-not_zero : (f b : Fraction) → IsHeld f → value_of f ≢ num_zero → value_of b ≢ num_zero → mul (value_of f) (value_of b) ≢ num_zero
mul-not_zero f b l h k e = k (undo (value_of f) (inverse_of f) (value_of b) (inverse-mul f l.terms h) e)

pub neg-not_zero : (x : Number) → x ≢ num_zero → neg x ≢ num_zero
neg-not_zero x h e = h (sym (num_neg-neg x) ∙ ap neg e ∙ num_mul-zero _)

pub grow-both : (ρ : Line) (f : Number) (σ : Line) (a b : Entry) (A B out : List Entry) → IsMerging ρ f σ (a ∷ A) (b ∷ B) out → a.unknown ≡ b.unknown → DifferenceGrows f a b → TimesGrows ρ f σ
grow-both ρ f σ a b A B out m h r = elim r [
  | inl x ↦ grow-product ρ f σ b (a ∷ A) B out m x
  | inr x ↦ grow-difference ρ f σ a b A B out m h x
]

pub always_err : {X P : Type 0} (r : Result X EliminateFault) → P → IfErr r (λ e. e ≡ TooLarge → P)
always_err (Ok x) p = tt
always_err (Err e) p = λ _. p

-- ---- the steps, at places of both rows
pub above-at : (a b : Entry) (xs : List Entry) (j : ℕ) → j < length xs → b ≡ get_or xs j b → IsRow (drop j xs) → a.unknown < b.unknown → Above a.unknown (drop j xs)
above-at a b xs j h e r k =
    let d = drop_head xs j b h e in
    subst (Above a.unknown) (sym d) (k, above_less a.unknown b.unknown (drop (j + 1) xs) k (subst IsRow d r).0)

pub at-left : (ρ : Line) (f : Number) (σ : Line) (xs B out new : List Entry) (i : ℕ) (a : Entry) → IsMerging ρ f σ (drop i xs) B out → i < length xs → a ≡ get_or xs i a → Above a.unknown B → new ≡ out ++ a ∷ [] → IsMerging ρ f σ (drop (i + 1) xs) B new
at-left ρ f σ xs B out new i a m h e k o = subst (IsMerging ρ f σ (drop (i + 1) xs) B) (sym o) (merge-left ρ f σ a (drop (i + 1) xs) B out (subst (λ A. IsMerging ρ f σ A B out) (drop_head xs i a h e) m) k)

pub at-right : (ρ : Line) (f : Number) (σ : Line) (ys A out new : List Entry) (j : ℕ) (b e : Entry) → IsMerging ρ f σ A (drop j ys) out → j < length ys → b ≡ get_or ys j b → Above b.unknown A → IsNegative f b e → new ≡ out ++ e ∷ [] → IsMerging ρ f σ A (drop (j + 1) ys) new
at-right ρ f σ ys A out new j b e m h p k n o = subst (IsMerging ρ f σ A (drop (j + 1) ys)) (sym o) (merge-right ρ f σ b e A (drop (j + 1) ys) out (subst (λ B. IsMerging ρ f σ A B out) (drop_head ys j b h p) m) k n.calm n.unknown n.value n.entry)

pub heads-at : (ρ : Line) (f : Number) (σ : Line) (xs ys out : List Entry) (i j : ℕ) (a b : Entry) → IsMerging ρ f σ (drop i xs) (drop j ys) out → i < length xs → a ≡ get_or xs i a → j < length ys → b ≡ get_or ys j b → IsMerging ρ f σ (a ∷ drop (i + 1) xs) (b ∷ drop (j + 1) ys) out
heads-at ρ f σ xs ys out i j a b m h e k p = subst (λ A. IsMerging ρ f σ A (b ∷ drop (j + 1) ys) out) (drop_head xs i a h e) (subst (λ B. IsMerging ρ f σ (drop i xs) B out) (drop_head ys j b k p) m)

pub right-head : (ρ : Line) (f : Number) (σ : Line) (A ys out : List Entry) (j : ℕ) (b : Entry) → IsMerging ρ f σ A (drop j ys) out → j < length ys → b ≡ get_or ys j b → IsMerging ρ f σ A (b ∷ drop (j + 1) ys) out
right-head ρ f σ A ys out j b m k p = subst (λ B. IsMerging ρ f σ A B out) (drop_head ys j b k p) m

pub none-above : (k : ℕ) (xs : List Entry) (i : ℕ) → length xs ≤ i → Above k (drop i xs)
none-above k xs i h = subst (Above k) (sym (drop_all i xs h)) tt

pub at-end : (ρ : Line) (f : Number) (σ : Line) (xs ys out : List Entry) (i j : ℕ) → IsMerging ρ f σ (drop i xs) (drop j ys) out → length xs ≤ i → length ys ≤ j → IsDifference ρ f σ out
at-end ρ f σ xs ys out i j m h k = merge-end ρ f σ out (subst (λ A. IsMerging ρ f σ A [] out) (drop_all i xs h) (subst (λ B. IsMerging ρ f σ (drop i xs) B out) (drop_all j ys k) m))
