-- Steps of the elimination on lines.
--   minus_none    what is taken away is 0
--   dot-minus, dot-less, dot-reduced, dot-zero, dot-scaled, solve-cleared, solve-snoc    solutions
--   scaled-is, kept_same, scaled-unique    scaling
--   reduced-keeps, reduced-zero, keep-reduced    each pivot is 1 in its own row and 0 in the others
--   IsState, state-skip, new-leading, undo, state-keep ..    the state between two rows
use Rattle.list_laws.proofs.Kit.{◌≡◌, ℕ, zero, suc, ◌⊎◌, ◌↔◌, inl, inr, List, [], ◌∷◌, ◌++◌, refl, ap, sym, ◌∙◌, subst, arith, cases_lt, cases_order}
use Rattle.list_laws.proofs.Members.{each_map, each_push}
use Rattle.tensor_defs.specs.Prelude.{Number, add, mul, neg, num_zero, num_one, whole, Line, Kept, minus_times, less, reduced, cleared, IsScaled, IsZeroLine}
use Rattle.tensor_defs.specs.Prelude.{ReducingGrows, LineGrows, ClearingGrows, GrowsFrom, Each}
use Rattle.number_laws.proofs.NumberLaws.{num_mul_assoc, num_mul-add, num_add-zero, num_mul-one, num_mul-zero, num_mul_left_comm, num_one-mul, num_zero-mul, num_add-neg, ring}
use Rattle.sparse_rows.specs.Solutions.{dot, Solve, lines_of, AreApart, AllApart, IsLeading, IsReduced, IsWithin, IsKeptWithin, scaled_by, IsPivot}

neg_zero : neg num_zero ≡ num_zero
neg_zero = num_mul-zero (whole _)

-- what is taken away is 0
pub minus_none : (r f : Number) → add r (neg (mul f num_zero)) ≡ r
minus_none r f = ap (λ x. add r (neg x)) (num_mul-zero f) ∙ ap (add r) neg_zero ∙ num_add-zero r

pub minus_zero : (r x : Number) → add r (neg (mul num_zero x)) ≡ r
minus_zero r x = ap (λ y. add r (neg y)) (num_zero-mul x) ∙ ap (add r) neg_zero ∙ num_add-zero r

pub minus_self : (r : Number) → add r (neg (mul r num_one)) ≡ num_zero
minus_self r = ap (λ x. add r (neg x)) (num_mul-one r) ∙ num_add-neg r

pub less-none : (ρ : Line) (κ : Kept) (u : ℕ) → κ.line u ≡ num_zero → less ρ κ u ≡ ρ u
less-none ρ κ u e = ap (λ x. add (ρ u) (neg (mul (ρ κ.pivot) x))) e ∙ minus_none (ρ u) (ρ κ.pivot)

pub less-zero : (ρ : Line) (κ : Kept) (u : ℕ) → ρ κ.pivot ≡ num_zero → less ρ κ u ≡ ρ u
less-zero ρ κ u e = ap (λ x. add (ρ u) (neg (mul x (κ.line u)))) e ∙ minus_zero (ρ u) (κ.line u)

pub less-own : (ρ : Line) (κ : Kept) → κ.line κ.pivot ≡ num_one → less ρ κ κ.pivot ≡ num_zero
less-own ρ κ e = ap (λ x. add (ρ κ.pivot) (neg (mul (ρ κ.pivot) x))) e ∙ minus_self (ρ κ.pivot)

-- ---- solutions
pub dot-minus : (n : ℕ) (ρ : Line) (f : Number) (σ : Line) (t : ℕ → Number) → dot n (minus_times ρ f σ) t ≡ add (dot n ρ t) (neg (mul f (dot n σ t)))
dot-minus zero ρ f σ t = sym (minus_none num_zero f)
dot-minus (suc n) ρ f σ t = ap (add (mul (minus_times ρ f σ n) (t n))) (dot-minus n ρ f σ t) ∙ law (whole _) (ρ n) f (σ n) (t n) (dot n ρ t) (dot n σ t)
  where
    law : (m r f k x a b : Number) → add (mul (add r (mul m (mul f k))) x) (add a (mul m (mul f b))) ≡ add (add (mul r x) a) (mul m (mul f (add (mul k x) b)))
    law m r f k x a b = simp ring

pub dot-less : (n : ℕ) (ρ : Line) (κ : Kept) (t : ℕ → Number) → dot n κ.line t ≡ num_zero → dot n (less ρ κ) t ≡ dot n ρ t
dot-less n ρ κ t e = dot-minus n ρ (ρ κ.pivot) κ.line t ∙ ap (λ x. add (dot n ρ t) (neg (mul (ρ κ.pivot) x))) e ∙ minus_none (dot n ρ t) (ρ κ.pivot)

pub dot-reduced : (n : ℕ) (κs : List Kept) (ρ : Line) (t : ℕ → Number) → Solve n t (lines_of κs) → dot n (reduced κs ρ) t ≡ dot n ρ t
dot-reduced n [] ρ t e = refl
dot-reduced n (κ ∷ κs) ρ t e = dot-reduced n κs (less ρ κ) t e.1 ∙ dot-less n ρ κ t e.0

pub dot-zero : (n : ℕ) (ρ : Line) (t : ℕ → Number) → IsZeroLine ρ → dot n ρ t ≡ num_zero
dot-zero zero ρ t e = refl
dot-zero (suc n) ρ t e = (λ i. add (mul (e n i) (t n)) (dot-zero n ρ t e i)) ∙ ap (λ x. add x num_zero) (num_zero-mul (t n)) ∙ num_add-zero num_zero

pub dot-scaled : (n : ℕ) (d : Number) (ρ σ : Line) (t : ℕ → Number) → ((u : ℕ) → mul d (σ u) ≡ ρ u) → mul d (dot n σ t) ≡ dot n ρ t
dot-scaled zero d ρ σ t e = num_mul-zero d
dot-scaled (suc n) d ρ σ t e =
    num_mul-add d (mul (σ n) (t n)) (dot n σ t) ∙ ap (λ x. add x (mul d (dot n σ t))) (sym (num_mul_assoc d (σ n) (t n)))
    ∙ (λ i. add (mul (e n i) (t n)) (dot-scaled n d ρ σ t e i))

pub solve-cleared : (n : ℕ) (t : ℕ → Number) (new : Kept) → dot n new.line t ≡ num_zero → (κs : List Kept) → Solve n t (lines_of κs) ↔ Solve n t (lines_of (cleared new κs))
solve-cleared n t new e [] = (λ s. s, λ s. s)
solve-cleared n t new e (κ ∷ κs) =
    let h = solve-cleared n t new e κs in
    let k : dot n (less κ.line new) t ≡ dot n κ.line t = dot-less n κ.line new t e in
    (λ s. (k ∙ s.0, h.0 s.1), λ s. (sym k ∙ s.0, h.1 s.1))

pub solve-snoc : (n : ℕ) (t : ℕ → Number) (κs : List Kept) (new : Kept) → (Solve n t (lines_of κs) × (dot n new.line t ≡ num_zero)) ↔ Solve n t (lines_of (κs ++ new ∷ []))
solve-snoc n t [] new = (λ s. (s.1, tt), λ s. (tt, s.0))
solve-snoc n t (κ ∷ κs) new =
    let h = solve-snoc n t κs new in
    (λ s. (s.0.0, h.0 (s.0.1, s.1)), λ s. ((s.0, (h.1 s.1).0), (h.1 s.1).1))

-- ---- scaling
pub scaled-is : (ρ : Line) (p : ℕ) (w : Number) → IsPivot ρ p w → IsScaled ρ (scaled_by ρ p w)
scaled-is ρ p w h = record {
  last = h.last;
  not_zero = h.not_zero;
  scaled = λ u. num_mul_left_comm (ρ p) (ρ u) w ∙ ap (mul (ρ u)) h.inverse ∙ num_mul-one (ρ u);
}

pub kept_same : (κ κ' : Kept) → κ.pivot ≡ κ'.pivot → ((u : ℕ) → κ.line u ≡ κ'.line u) → κ ≡ κ'
kept_same κ κ' e f = λ i. record { pivot = e i; line = λ u. f u i }

pub scaled-unique : (ρ : Line) (p : ℕ) (w : Number) (κ : Kept) → IsPivot ρ p w → IsScaled ρ κ → κ ≡ scaled_by ρ p w
scaled-unique ρ p w κ h s = kept_same κ (scaled_by ρ p w) place line
  where
    place : κ.pivot ≡ p
    place = elim (cases_order κ.pivot p) [
      | inl e ↦ e
      | inr k ↦ elim k [
        | inl l ↦ absurd (h.not_zero (s.last p l))
        | inr l ↦ absurd (s.not_zero (h.last κ.pivot l))
      ]
    ]

    law : (k d w : Number) → mul (mul d k) w ≡ mul (mul d w) k
    law k d w = simp ring

    line : (u : ℕ) → κ.line u ≡ mul (ρ u) w
    line u =
        sym (num_one-mul (κ.line u)) ∙ ap (λ x. mul x (κ.line u)) (sym h.inverse) ∙ sym (law (κ.line u) (ρ p) w)
        ∙ ap (λ q. mul (mul (ρ q) (κ.line u)) w) (sym place) ∙ ap (λ x. mul x w) (s.scaled u)

-- ---- each pivot is 1 in its own row and 0 in the others
pub reduced-keeps : (κs : List Kept) (ρ : Line) (p : ℕ) → ρ p ≡ num_zero → Each (λ κ. κ.line p ≡ num_zero) κs → reduced κs ρ p ≡ num_zero
reduced-keeps [] ρ p e z = e
reduced-keeps (κ ∷ κs) ρ p e z = reduced-keeps κs (less ρ κ) p (less-none ρ κ p z.0 ∙ e) z.1

pub reduced-zero : (κs : List Kept) (ρ : Line) → Each IsLeading κs → AllApart κs → Each (λ κ. reduced κs ρ κ.pivot ≡ num_zero) κs
reduced-zero [] ρ l a = tt
reduced-zero (κ ∷ κs) ρ l a = (
  reduced-keeps κs (less ρ κ) κ.pivot (less-own ρ κ l.0.own) (each_map (AreApart κ) (λ x. x.line κ.pivot ≡ num_zero) (λ x h. h.second) κs a.0),
  reduced-zero κs (less ρ κ) l.1 a.1,
)

abbrev clear : Kept → Kept → Kept
clear new κ = record { pivot = κ.pivot; line = less κ.line new }

clear-leading : (new κ : Kept) → IsLeading new → new.line κ.pivot ≡ num_zero → IsLeading κ → IsLeading (clear new κ)
clear-leading new κ n z l = record {
  own = less-none κ.line new κ.pivot z ∙ l.own;
  after = λ u h. elim (cases_lt new.pivot u) [
    | inl k ↦ less-none κ.line new u (n.after u k) ∙ l.after u h
    | inr k ↦ less-zero κ.line new u (l.after new.pivot (omega arith)) ∙ l.after u h
  ];
}

clear-apart : (new κ κ' : Kept) → new.line κ.pivot ≡ num_zero → new.line κ'.pivot ≡ num_zero → AreApart κ κ' → AreApart (clear new κ) (clear new κ')
clear-apart new κ κ' z z' a = record {
  first = less-none κ.line new κ'.pivot z' ∙ a.first;
  second = less-none κ'.line new κ.pivot z ∙ a.second;
}

cleared-leading : (new : Kept) → IsLeading new → (κs : List Kept) → Each (λ κ. new.line κ.pivot ≡ num_zero) κs → Each IsLeading κs → Each IsLeading (cleared new κs)
cleared-leading new n [] z l = tt
cleared-leading new n (κ ∷ κs) z l = (clear-leading new κ n z.0 l.0, cleared-leading new n κs z.1 l.1)

cleared-apart_from : (new κ : Kept) → new.line κ.pivot ≡ num_zero → (κs : List Kept) → Each (λ κ. new.line κ.pivot ≡ num_zero) κs → Each (AreApart κ) κs → Each (AreApart (clear new κ)) (cleared new κs)
cleared-apart_from new κ y [] z a = tt
cleared-apart_from new κ y (κ' ∷ κs) z a = (clear-apart new κ κ' y z.0 a.0, cleared-apart_from new κ y κs z.1 a.1)

cleared-apart : (new : Kept) (κs : List Kept) → Each (λ κ. new.line κ.pivot ≡ num_zero) κs → AllApart κs → AllApart (cleared new κs)
cleared-apart new [] z a = tt
cleared-apart new (κ ∷ κs) z a = (cleared-apart_from new κ z.0 κs z.1 a.0, cleared-apart new κs z.1 a.1)

cleared-new : (new : Kept) → IsLeading new → (κs : List Kept) → Each (λ κ. new.line κ.pivot ≡ num_zero) κs → Each (λ κ. AreApart κ new) (cleared new κs)
cleared-new new n [] z = tt
cleared-new new n (κ ∷ κs) z = (record { first = less-own κ.line new n.own; second = z.0 }, cleared-new new n κs z.1)

apart-snoc : (κs : List Kept) (new : Kept) → AllApart κs → Each (λ κ. AreApart κ new) κs → AllApart (κs ++ new ∷ [])
apart-snoc [] new a e = (tt, tt)
apart-snoc (κ ∷ κs) new a e = (each_push (AreApart κ) κs new a.0 e.0, apart-snoc κs new a.1 e.1)

pub keep-reduced : (κs : List Kept) (new : Kept) → IsReduced κs → IsLeading new → Each (λ κ. new.line κ.pivot ≡ num_zero) κs → IsReduced (cleared new κs ++ new ∷ [])
keep-reduced κs new r n z = record {
  leading = each_push IsLeading (cleared new κs) new (cleared-leading new n κs z r.leading) n;
  apart = apart-snoc (cleared new κs) new (cleared-apart new κs z r.apart) (cleared-new new n κs z);
}

-- ---- where rows are 0
within-less : (n : ℕ) (ρ : Line) (κ : Kept) → IsWithin n ρ → IsWithin n κ.line → IsWithin n (less ρ κ)
within-less n ρ κ r k u h = less-none ρ κ u (k u h) ∙ r u h

within-reduced : (n : ℕ) (κs : List Kept) (ρ : Line) → Each (IsKeptWithin n) κs → IsWithin n ρ → IsWithin n (reduced κs ρ)
within-reduced n [] ρ k r = r
within-reduced n (κ ∷ κs) ρ k r = within-reduced n κs (less ρ κ) k.1 (within-less n ρ κ r k.0.within)

within-scaled : (n : ℕ) (ρ : Line) (p : ℕ) (w : Number) → IsPivot ρ p w → IsWithin n ρ → IsKeptWithin n (scaled_by ρ p w)
within-scaled n ρ p w h r = record {
  place = elim (cases_lt p n) [
    | inl k ↦ k
    | inr k ↦ absurd (h.not_zero (r p k))
  ];
  within = λ u k. ap (λ x. mul x w) (r u k) ∙ num_zero-mul w;
}

within-cleared : (n : ℕ) (new : Kept) → IsWithin n new.line → (κs : List Kept) → Each (IsKeptWithin n) κs → Each (IsKeptWithin n) (cleared new κs)
within-cleared n new h [] k = tt
within-cleared n new h (κ ∷ κs) k =
    (record { place = k.0.place; within = within-less n κ.line new k.0.within h }, within-cleared n new h κs k.1)

within-keep : (n : ℕ) (κs : List Kept) (ρ : Line) (p : ℕ) (w : Number) → IsPivot (reduced κs ρ) p w → Each (IsKeptWithin n) κs → IsWithin n ρ
    → Each (IsKeptWithin n) (cleared (scaled_by (reduced κs ρ) p w) κs ++ scaled_by (reduced κs ρ) p w ∷ [])
within-keep n κs ρ p w h k r =
    let new = scaled_by (reduced κs ρ) p w in
    let s = within-scaled n (reduced κs ρ) p w h (within-reduced n κs ρ k r) in
    each_push (IsKeptWithin n) (cleared new κs) new (within-cleared n new s.within κs k) s

-- ---- the state between two rows
pub record IsState (all : List Line) (κs : List Kept) (rest : List Line) : Type 0 where
  pub is_reduced : IsReduced κs
  pub same : (n : ℕ) (t : ℕ → Number) → Solve n t all ↔ (Solve n t (lines_of κs) × Solve n t rest)
  pub within : (n : ℕ) → Each (IsWithin n) all → Each (IsKeptWithin n) κs × Each (IsWithin n) rest
  pub grows_then : GrowsFrom [] all → GrowsFrom κs rest
  pub grew_from : GrowsFrom κs rest → GrowsFrom [] all

-- a row that is not 0 is not scaled from one that is
zero_unscaled : (ρ : Line) (κ : Kept) → IsZeroLine ρ → IsScaled ρ κ → ⊥
zero_unscaled ρ κ z s = s.not_zero (z κ.pivot)

pub state-skip : (all : List Line) (κs : List Kept) (ρ : Line) (ρs : List Line) → IsState all κs (ρ ∷ ρs) → (ReducingGrows κs ρ → ⊥) → IsZeroLine (reduced κs ρ) → IsState all κs ρs
state-skip all κs ρ ρs s calm z = record {
  is_reduced = s.is_reduced;
  same = λ n t. (λ a. let b = (s.same n t).0 a in (b.0, b.1.1), λ b. (s.same n t).1 (b.0, (sym (dot-reduced n κs ρ t b.0) ∙ dot-zero n (reduced κs ρ) t z, b.1)));
  within = λ n a. let b = s.within n a in (b.0, b.1.1);
  grows_then = λ g. elim (s.grows_then g) [
    | inl h ↦ absurd (calm h)
    | inr h ↦ elim h [
      | inl k ↦ k.1
      | inr k ↦ absurd (zero_unscaled (reduced κs ρ) k.0 z k.1)
    ]
  ];
  grew_from = λ g. s.grew_from (inr (inl (z, g)));
}

-- what is made of a row that is kept
pub new-leading : (ρ : Line) (p : ℕ) (w : Number) → IsPivot ρ p w → IsLeading (scaled_by ρ p w)
new-leading ρ p w h = record { own = h.inverse; after = λ u k. ap (λ x. mul x w) (h.last u k) ∙ num_zero-mul w }

new-zero : (κs : List Kept) (ρ : Line) (p : ℕ) (w : Number) → Each (λ κ. ρ κ.pivot ≡ num_zero) κs → Each (λ κ. mul (ρ κ.pivot) w ≡ num_zero) κs
new-zero [] ρ p w e = tt
new-zero (κ ∷ κs) ρ p w e = (ap (λ x. mul x w) e.0 ∙ num_zero-mul w, new-zero κs ρ p w e.1)

pub undo : (d w x : Number) → mul d w ≡ num_one → mul d x ≡ num_zero → x ≡ num_zero
undo d w x h e = sym (num_one-mul x) ∙ ap (λ y. mul y x) (sym h) ∙ law d w x ∙ ap (mul w) e ∙ num_mul-zero w
  where
    law : (d w x : Number) → mul (mul d w) x ≡ mul w (mul d x)
    law d w x = simp ring

abbrev kept_solutions : List Line → List Kept → List Line → Type 0
kept_solutions all κs rest = (n : ℕ) (t : ℕ → Number) → Solve n t all ↔ (Solve n t (lines_of κs) × Solve n t rest)

keep-same : (all : List Line) (κs : List Kept) (ρ : Line) (ρs : List Line) (p : ℕ) (w : Number) → kept_solutions all κs (ρ ∷ ρs) → IsPivot (reduced κs ρ) p w
    → kept_solutions all (cleared (scaled_by (reduced κs ρ) p w) κs ++ scaled_by (reduced κs ρ) p w ∷ []) ρs
keep-same all κs ρ ρs p w s h n t =
    let new = scaled_by (reduced κs ρ) p w in
    let both : mul (reduced κs ρ p) (dot n new.line t) ≡ dot n (reduced κs ρ) t = dot-scaled n (reduced κs ρ p) (reduced κs ρ) new.line t (scaled-is (reduced κs ρ) p w h).scaled in (
      λ a.
          let b = (s n t).0 a in
          let e : dot n new.line t ≡ num_zero = undo (reduced κs ρ p) w (dot n new.line t) h.inverse (both ∙ dot-reduced n κs ρ t b.0 ∙ b.1.0) in
          ((solve-snoc n t (cleared new κs) new).0 ((solve-cleared n t new e κs).0 b.0, e), b.1.1),
      λ b.
          let k = (solve-snoc n t (cleared new κs) new).1 b.0 in
          let old = (solve-cleared n t new k.1 κs).1 k.0 in
          (s n t).1 (old, (sym (dot-reduced n κs ρ t old) ∙ sym both ∙ ap (mul (reduced κs ρ p)) k.1 ∙ num_mul-zero (reduced κs ρ p), b.1)),
    )

pub state-keep : (all : List Line) (κs : List Kept) (ρ : Line) (ρs : List Line) (p : ℕ) (w : Number) → IsState all κs (ρ ∷ ρs) → (ReducingGrows κs ρ → ⊥) → IsPivot (reduced κs ρ) p w
    → (LineGrows (scaled_by (reduced κs ρ) p w).line → ⊥) → (ClearingGrows (scaled_by (reduced κs ρ) p w) κs → ⊥)
    → IsState all (cleared (scaled_by (reduced κs ρ) p w) κs ++ scaled_by (reduced κs ρ) p w ∷ []) ρs
state-keep all κs ρ ρs p w s calm h calm_line calm_clear =
    let new = scaled_by (reduced κs ρ) p w in
    record {
      is_reduced = keep-reduced κs new s.is_reduced (new-leading (reduced κs ρ) p w h) (new-zero κs (reduced κs ρ) p w (reduced-zero κs ρ s.is_reduced.leading s.is_reduced.apart));
      same = keep-same all κs ρ ρs p w s.same h;
      within = λ n a. let b = s.within n a in (within-keep n κs ρ p w h b.0 b.1.0, b.1.1);
      grows_then = λ g. elim (s.grows_then g) [
        | inl k ↦ absurd (calm k)
        | inr k ↦ elim k [
          | inl z ↦ absurd (h.not_zero (z.0 p))
          | inr z ↦
              let same : z.0 ≡ new = scaled-unique (reduced κs ρ) p w z.0 h z.1 in
              let P : Kept → Type 0 = λ κ. LineGrows κ.line ⊎ (ClearingGrows κ κs ⊎ GrowsFrom (cleared κ κs ++ κ ∷ []) ρs) in
              elim (subst P same z.2) [
                | inl y ↦ absurd (calm_line y)
                | inr y ↦ elim y [
                  | inl x ↦ absurd (calm_clear x)
                  | inr x ↦ x
                ]
              ]
        ]
      ];
      grew_from = λ g. s.grew_from (inr (inr (new, scaled-is (reduced κs ρ) p w h, inr (inr g))));
    }

-- each way to grow at the next row
pub grows-reducing : (all : List Line) (κs : List Kept) (ρ : Line) (ρs : List Line) → IsState all κs (ρ ∷ ρs) → ReducingGrows κs ρ → GrowsFrom [] all
grows-reducing all κs ρ ρs s g = s.grew_from (inl g)

pub grows-scaling : (all : List Line) (κs : List Kept) (ρ : Line) (ρs : List Line) (p : ℕ) (w : Number) → IsState all κs (ρ ∷ ρs) → IsPivot (reduced κs ρ) p w → LineGrows (scaled_by (reduced κs ρ) p w).line → GrowsFrom [] all
grows-scaling all κs ρ ρs p w s h g = s.grew_from (inr (inr (scaled_by (reduced κs ρ) p w, scaled-is (reduced κs ρ) p w h, inl g)))

pub grows-clearing : (all : List Line) (κs : List Kept) (ρ : Line) (ρs : List Line) (p : ℕ) (w : Number) → IsState all κs (ρ ∷ ρs) → IsPivot (reduced κs ρ) p w → ClearingGrows (scaled_by (reduced κs ρ) p w) κs → GrowsFrom [] all
grows-clearing all κs ρ ρs p w s h g = s.grew_from (inr (inr (scaled_by (reduced κs ρ) p w, scaled-is (reduced κs ρ) p w h, inr (inl g))))

pub state-end : (all : List Line) (κs : List Kept) → IsState all κs [] → (GrowsFrom [] all → ⊥)
state-end all κs s g = s.grows_then g
