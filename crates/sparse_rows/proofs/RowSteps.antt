-- The steps, row by row.
--   found-at, found-entry, IsSplit, middle-below, split-start, split-low ..    looking for an unknown
--   IsReducing, reducing-start, line_path, reducing-skip, reducing-away, reduced-away, reducing-step    reducing
--   scaling-nonzero, IsScaling, scaling-start, scaling-step, scaling-grows, scaling-same ..    scaling
--   IsClearing, clearing-start, clearing-step, cleared-away, seen-more, kepts-snoc, rows-snoc ..    clearing
--   clearing-at, cleared-copy, cleared-less, cleared-grows, reducing-at ..    at places of lists
--   kept-made    keeping
--   state-at, skip-at, keep-at, keep-fails, state-done    one row more
--   difference-same, times-same, reduced-same, reducing_same, kept-same, cannot-same, err-same
--       the same lists under other names
use Rattle.list_laws.proofs.Kit.{length, get_or, drop, ◌≡◌, ◌≢◌, ℕ, zero, suc, ◌+◌, ◌-◌, ◌/◌, ◌<◌, ◌≤◌, inl, inr, List, [], ◌∷◌, ◌++◌}
use Rattle.list_laws.proofs.Kit.{refl, ap, sym, ◌∙◌, subst, arith, cases_Bool, cases_eq, cases_lt, drop_of_length-le, get_or_default}
use Rattle.std.specs.Prelude.{Result, Ok, Err, IfErr, IsErrAnd, Bool, false}
use Rattle.sparse_rows.specs.declared.entry.EliminateFault.{EliminateFault}
use Rattle.sparse_rows.specs.declared.entry.EliminateFault.TheVariants.{TooLarge}
use Rattle.list_laws.proofs.Prelude.{drop_head, each_push, each_read}
use Rattle.sparse_rows.proofs.Lines.{IsState, state-skip, state-keep, grows-scaling, grows-clearing, state-end}
use Rattle.sparse_rows.specs.declared.entry.Row.{Row}
use Rattle.tensor_defs.specs.Prelude.{Number, add, mul, num_zero, ReachesLimit, value_of, Fraction, Line, Kept, less, reduced, cleared, TimesGrows}
use Rattle.tensor_defs.specs.Prelude.{ReducingGrows, LessGrows, ClearingGrows, LineGrows, GrowsFrom, Each}
use Rattle.number_laws.proofs.NumberLaws.{num_add-zero, num_zero-add, num_zero-mul, num_add-mul, num_mul_comm, num_add_assoc}
use Rattle.sparse_rows.specs.Solutions.{scaled_by, IsLeading, IsPivot}
use Rattle.sparse_rows.specs.Marks.{AreMarked, AreSeen, IsAway, is_marked}
use Rattle.number_laws.proofs.Sameness.{one_not_zero}
use Rattle.sparse_rows.proofs.Lines.{less-none, less-zero, reduced-keeps, undo, kept_same}
use Rattle.exact_frac.specs.Held.{inverse_of, IsHeld}
use Rattle.exact_frac.proofs.Parts.{inverse-mul}
use Rattle.sparse_rows.specs.Rows.{part, coeff, Above, IsEntry, IsRow, IsDifference}
use Rattle.sparse_rows.specs.KeptRows.{IsKeptRow, CannotKeep, IsEliminated, lines, kept_of, kepts, AreRows, IsReducedRow, IsScaledRow, IsClearedRow, AreCleared}
use Rattle.sparse_rows.specs.declared.entry.Entry.{Entry}
use Rattle.sparse_rows.specs.declared.entry.KeptRow.{KeptRow}
use Rattle.sparse_rows.proofs.Merging.{part-own, part-other, coeff-below, coeff-head, coeff-tail, coeff-snoc, coeff-small, row_snoc, below_head, below_tail}

pub row-drop : (xs : List Entry) (i : ℕ) → IsRow xs → IsRow (drop i xs)
row-drop xs zero r = r
row-drop [] (suc i) r = tt
row-drop (x ∷ xs) (suc i) r = row-drop xs i r.2

-- ---- looking for an unknown
pub coeff-empty : (xs : List Entry) (u : ℕ) → length xs ≡ 0 → coeff xs u ≡ num_zero
coeff-empty [] u h = refl
coeff-empty (x ∷ xs) u h = absurd (omega (arith, h))

-- the value of a row at one of its unknowns
pub found-at : (xs : List Entry) (i : ℕ) (x : Entry) → i < length xs → x ≡ get_or xs i x → IsRow xs → coeff xs x.unknown ≡ value_of x.value
found-at [] i x h e r = absurd (omega (arith, h))
found-at (y ∷ ys) zero x h e r = coeff-head y ys x.unknown (λ k. (e k).unknown) r.0 ∙ (λ k. value_of (sym e k).value)
found-at (y ∷ ys) (suc i) x h e r =
    let k : y.unknown < x.unknown = each_read (λ z. y.unknown < z.unknown) ys r.0 i x (omega (arith, h)) e in
    coeff-tail y ys x.unknown (λ p. omega (arith, p, k)) ∙ found-at ys i x (omega (arith, h)) e r.2

pub found-entry : (xs : List Entry) (i : ℕ) (e : Entry) → IsRow xs → i < length xs → e ≡ get_or xs i e → IsEntry e
found-entry xs i e r h p = let s : IsRow (e ∷ drop (i + 1) xs) = subst IsRow (drop_head xs i e h p) (row-drop xs i r) in s.1

-- the entries before place k lie below u, the others above it
pub record IsSplit (xs : List Entry) (u low high : ℕ) : Type 0 where
  pub below : (x : Entry) (i : ℕ) → i < low → i < length xs → x ≡ get_or xs i x → x.unknown < u
  pub above : (x : Entry) (i : ℕ) → high ≤ i → i < length xs → x ≡ get_or xs i x → u < x.unknown

-- the entries of a row rise
rise-at : (xs : List Entry) (i j : ℕ) (x y : Entry) → IsRow xs → i < j → j < length xs → x ≡ get_or xs i x → y ≡ get_or xs j y → x.unknown < y.unknown
rise-at [] i j x y r l h e f = absurd (omega (arith, h))
rise-at (z ∷ zs) i zero x y r l h e f = absurd (omega (arith, l))
rise-at (z ∷ zs) zero (suc j) x y r l h e f =
    let k : z.unknown < y.unknown = each_read (λ w. z.unknown < w.unknown) zs r.0 j y (omega (arith, h)) f in
    subst (λ (w : Entry). w.unknown < y.unknown) (sym e) k
rise-at (z ∷ zs) (suc i) (suc j) x y r l h e f = rise-at zs i j x y r.2 (omega (arith, l)) (omega (arith, h)) e f

at-same : (xs : List Entry) (i m : ℕ) (x e : Entry) → i ≡ m → i < length xs → x ≡ get_or xs i x → e ≡ get_or xs m e → x.unknown ≡ e.unknown
at-same xs i m x e c b q p = ap (λ y. y.unknown) (q ∙ get_or_default xs i x e b ∙ ap (λ k. get_or xs k e) c ∙ sym p)

pub middle-below : (low high n : ℕ) → low < high → high ≤ n → low + (high - low) / 2 < n
middle-below low high n h k = omega (arith, h, k)

pub split-start : (xs : List Entry) (u : ℕ) → IsSplit xs u 0 (length xs)
split-start xs u = record { below = λ x i l. absurd (omega (arith, l)); above = λ x i l h. absurd (omega (arith, l, h)) }

pub split-low : (xs : List Entry) (u low high m : ℕ) (e : Entry) → IsRow xs → IsSplit xs u low high → m < length xs → e ≡ get_or xs m e → e.unknown < u → IsSplit xs u (m + 1) high
split-low xs u low high m e r s h p k = record {
  below = λ x i l b q. elim (cases_eq i m) [
    | inl c ↦
        let same : x.unknown ≡ e.unknown = at-same xs i m x e c b q p in
        omega (arith, same, k)
    | inr c ↦
        let t : x.unknown < e.unknown = rise-at xs i m x e r (omega (arith, l, c)) h q p in
        omega (arith, t, k)
  ];
  above = s.above;
}

pub split-high : (xs : List Entry) (u low high m : ℕ) (e : Entry) → IsRow xs → IsSplit xs u low high → m < length xs → e ≡ get_or xs m e → u < e.unknown → IsSplit xs u low m
split-high xs u low high m e r s h p k = record {
  below = s.below;
  above = λ x i l b q. elim (cases_eq i m) [
    | inl c ↦
        let same : x.unknown ≡ e.unknown = at-same xs i m x e c b q p in
        omega (arith, same, k)
    | inr c ↦
        let t : e.unknown < x.unknown = rise-at xs m i e x r (omega (arith, l, c)) b p q in
        omega (arith, t, k)
  ];
}

-- where no place is left, the row is 0
pub split-end : (xs : List Entry) (u low high : ℕ) → IsSplit xs u low high → high ≤ low → coeff xs u ≡ num_zero
split-end xs u low high s h = off xs (λ x i b q. elim (cases_lt i low) [
  | inl l ↦ let k = s.below x i l b q in λ p. omega (arith, k, p)
  | inr l ↦ let k = s.above x i (omega (arith, l, h)) b q in λ p. omega (arith, k, p)
])
  where
    off : (ys : List Entry) → ((x : Entry) (i : ℕ) → i < length ys → x ≡ get_or ys i x → u ≢ x.unknown) → coeff ys u ≡ num_zero
    off [] f = refl
    off (y ∷ ys) f = coeff-tail y ys u (f y 0 (omega arith) refl) ∙ off ys (λ x i l q. f x (suc i) (omega (arith, l)) q)

-- ---- reducing
pub record IsReducing (κs0 : List Kept) (ρ0 : Line) (κs : List Kept) (ρ : Line) : Type 0 where
  pub same : reduced κs ρ ≡ reduced κs0 ρ0
  pub then : ReducingGrows κs0 ρ0 → ReducingGrows κs ρ
  pub from : ReducingGrows κs ρ → ReducingGrows κs0 ρ0

pub reducing-start : (κs : List Kept) (ρ : Line) → IsReducing κs ρ κs ρ
reducing-start κs ρ = record { same = refl; then = λ g. g; from = λ g. g }

abbrev pub line_path : (ρ σ : Line) → ((u : ℕ) → ρ u ≡ σ u) → ρ ≡ σ
line_path ρ σ e = λ i u. e u i

pub reducing-skip : (κs0 : List Kept) (ρ0 : Line) (κ : Kept) (κs : List Kept) (ρ : Line) → IsReducing κs0 ρ0 (κ ∷ κs) ρ → ρ κ.pivot ≡ num_zero → IsReducing κs0 ρ0 κs ρ
reducing-skip κs0 ρ0 κ κs ρ s z =
    let e : less ρ κ ≡ ρ = line_path (less ρ κ) ρ (λ u. less-zero ρ κ u z) in
    record {
      same = ap (reduced κs) (sym e) ∙ s.same;
      then = λ g. elim (s.then g) [
        | inl h ↦ absurd (h.0 z)
        | inr h ↦ subst (ReducingGrows κs) e h
      ];
      from = λ g. s.from (inr (subst (ReducingGrows κs) (sym e) g));
    }

-- a row that is 0 at each pivot stays as it is
pub reducing-away : (κs0 : List Kept) (ρ0 : Line) (κs : List Kept) (ρ : Line) → IsReducing κs0 ρ0 κs ρ → Each (λ κ. ρ κ.pivot ≡ num_zero) κs → IsReducing κs0 ρ0 [] ρ
reducing-away κs0 ρ0 [] ρ s z = s
reducing-away κs0 ρ0 (κ ∷ κs) ρ s z = reducing-away κs0 ρ0 κs ρ (reducing-skip κs0 ρ0 κ κs ρ s z.0) z.1

-- so does a row that has no unknown of kept rows
away-pivots : (marks : List Bool) (row : List Entry) (κs : List Kept) → IsAway marks row → Each IsLeading κs →
    ((u : ℕ) → is_marked marks u ≡ false → Each (λ κ. κ.line u ≡ num_zero) κs) → Each (λ κ. coeff row κ.pivot ≡ num_zero) κs
away-pivots marks row [] a l z = tt
away-pivots marks row (κ ∷ κs) a l z = (
  elim (cases_Bool (is_marked marks κ.pivot)) as (λ _. coeff row κ.pivot ≡ num_zero) [
    | inl t ↦ a.zero κ.pivot t
    | inr f ↦ absurd (one_not_zero (sym l.0.own ∙ (z κ.pivot f).0))
  ],
  away-pivots marks row κs a l.1 (λ u f. (z u f).1),
)

pub reduced-away : (marks : List Bool) (κs : List Kept) (row new : List Entry) → AreSeen marks κs → Each IsLeading κs → IsAway marks row →
    IsRow row → new ≡ row → IsReducedRow κs (coeff row) new
reduced-away marks κs row new s l a r e =
    let m = reducing-away κs (coeff row) κs (coeff row) (reducing-start κs (coeff row)) (away-pivots marks row κs a l s.zero) in
    subst (IsReducedRow κs (coeff row)) (sym e) (record { is_row = r; same = m.same; calm = m.then })

pub reducing-step : (κs0 : List Kept) (ρ0 : Line) (κ : Kept) (κs : List Kept) (ρ σ : Line) → IsReducing κs0 ρ0 (κ ∷ κs) ρ → σ ≡ less ρ κ → (LessGrows ρ κ → ⊥) → IsReducing κs0 ρ0 κs σ
reducing-step κs0 ρ0 κ κs ρ σ s e calm = record {
  same = ap (reduced κs) e ∙ s.same;
  then = λ g. elim (s.then g) [
    | inl h ↦ absurd (calm h)
    | inr h ↦ subst (ReducingGrows κs) (sym e) h
  ];
  from = λ g. s.from (inr (subst (ReducingGrows κs) e g));
}

-- ---- scaling
pub scaling-nonzero : (e last : Fraction) → IsHeld last → value_of e ≢ num_zero → value_of last ≢ num_zero → mul (value_of e) (inverse_of last) ≢ num_zero
scaling-nonzero e last l h k p = h (undo (inverse_of last) (value_of last) (value_of e) (num_mul_comm (inverse_of last) (value_of last) ∙ inverse-mul last l.terms k) (num_mul_comm (inverse_of last) (value_of e) ∙ p))

pub record IsScaling (ρ : Line) (w : Number) (A out : List Entry) : Type 0 where
  pub sum : (u : ℕ) → mul (ρ u) w ≡ add (coeff out u) (mul (coeff A u) w)
  pub row_a : IsRow A
  pub row_out : IsRow out
  pub below : Each (λ e. Above e.unknown A) out

pub scaling-start : (A : List Entry) (w : Number) → IsRow A → IsScaling (coeff A) w A []
scaling-start A w r = record { sum = λ u. sym (num_zero-add _); row_a = r; row_out = tt; below = tt }

pub scaling-step : (ρ : Line) (w : Number) (a e : Entry) (A out : List Entry) → IsScaling ρ w (a ∷ A) out → e.unknown ≡ a.unknown → value_of e.value ≡ mul (value_of a.value) w → IsEntry e → IsScaling ρ w A (out ++ e ∷ [])
scaling-step ρ w a e A out m p v z = record {
  sum = λ u. m.sum u ∙ ap (add (coeff out u)) (num_add-mul (part a u) (coeff A u) w) ∙ sym (num_add_assoc (coeff out u) (mul (part a u) w) (mul (coeff A u) w))
      ∙ ap (λ x. add (add (coeff out u) x) (mul (coeff A u) w)) (put u) ∙ ap (λ x. add x (mul (coeff A u) w)) (sym (coeff-snoc out e u));
  row_a = m.row_a.2;
  row_out = row_snoc out e m.row_out (subst (λ k. Each (λ x. x.unknown < k) out) (sym p) (below_head a A out m.below)) z;
  below = each_push (λ x. Above x.unknown A) out e (below_tail a A out m.below) (subst (λ k. Above k A) (sym p) m.row_a.0);
}
  where
    put : (u : ℕ) → mul (part a u) w ≡ part e u
    put u = elim (cases_eq u a.unknown) [
      | inl q ↦ ap (λ x. mul x w) (part-own a u q) ∙ sym v ∙ sym (part-own e u (q ∙ sym p))
      | inr q ↦ ap (λ x. mul x w) (part-other a u q) ∙ num_zero-mul w ∙ sym (part-other e u (λ r. q (r ∙ p)))
    ]

pub scaling-grows : (ρ : Line) (w : Number) (a : Entry) (A out : List Entry) (p : ℕ) → IsScaling ρ w (a ∷ A) out → ReachesLimit (mul (value_of a.value) w) → LineGrows (scaled_by ρ p w).line
scaling-grows ρ w a A out p m r = record { place = a.unknown; reaches = subst ReachesLimit (sym it) r }
  where
    it : mul (ρ a.unknown) w ≡ mul (value_of a.value) w
    it = m.sum a.unknown ∙ (λ i. add (coeff-below out a.unknown (below_head a A out m.below) i) (mul (coeff-head a A a.unknown refl m.row_a.0 i) w)) ∙ num_zero-add _

pub scaling-same : (ρ : Line) (w : Number) (out : List Entry) → IsScaling ρ w [] out → (u : ℕ) → coeff out u ≡ mul (ρ u) w
scaling-same ρ w out m u = sym (m.sum u ∙ ap (add (coeff out u)) (num_zero-mul w) ∙ num_add-zero (coeff out u))

-- the last entry of a row
pub last-value : (xs : List Entry) (i : ℕ) (x : Entry) → suc i ≡ length xs → x ≡ get_or xs i x → IsRow xs
    → (coeff xs x.unknown ≡ value_of x.value) × IsEntry x × ((u : ℕ) → x.unknown < u → coeff xs u ≡ num_zero)
last-value xs i x h e r =
    let d = drop_head xs i x (omega (arith, h)) e in
    let s : IsRow (x ∷ drop (i + 1) xs) = subst IsRow d (row-drop xs i r) in
    (found-at xs i x (omega (arith, h)) e r, s.1, λ u k. after xs i x h e r u k)
  where
    after : (xs : List Entry) (i : ℕ) (x : Entry) → suc i ≡ length xs → x ≡ get_or xs i x → IsRow xs → (u : ℕ) → x.unknown < u → coeff xs u ≡ num_zero
    after [] i x h e r u k = refl
    after (y ∷ ys) zero x h e r u k = let p : x.unknown ≡ y.unknown = λ j. (e j).unknown in coeff-tail y ys u (λ q. omega (arith, q, p, k)) ∙ coeff-empty ys u (omega (arith, h))
    after (y ∷ ys) (suc i) x h e r u k =
        let l : y.unknown < x.unknown = each_read (λ z. y.unknown < z.unknown) ys r.0 i x (omega (arith, h)) e in
        coeff-tail y ys u (λ p. omega (arith, p, k, l)) ∙ after ys i x (omega (arith, h)) e r.2 u k

pub last-pivot : (xs : List Entry) (i : ℕ) (x : Entry) → suc i ≡ length xs → x ≡ get_or xs i x → IsRow xs → IsPivot (coeff xs) x.unknown (inverse_of x.value)
last-pivot xs i x h e r =
    let l = last-value xs i x h e r in
    record {
      last = l.2;
      not_zero = λ z. l.1.not_zero (sym l.0 ∙ z);
      inverse = ap (λ y. mul y (inverse_of x.value)) l.0 ∙ inverse-mul x.value l.1.held.terms l.1.not_zero;
    }

pub scaled-row : (ρ : Line) (w : Number) (p : ℕ) (k : KeptRow) → IsScaling ρ w [] k.entries.items → IsPivot ρ p w → k.pivot ≡ p → IsScaledRow ρ k
scaled-row ρ w p k m h e = record {
  is_row = m.row_out;
  inverse = w;
  pivot = subst (λ q. IsPivot ρ q w) (sym e) h;
  same = kept_same (kept_of k) (scaled_by ρ k.pivot w) refl (scaling-same ρ w k.entries.items m);
  calm = λ g. coeff-small k.entries.items g.place m.row_out (subst ReachesLimit (sym (scaling-same ρ w k.entries.items m g.place)) g.reaches);
}

-- ---- clearing
pub record IsClearing (new : Kept) (κs0 κs1 κs : List Kept) : Type 0 where
  pub same : cleared new κs0 ≡ κs1 ++ cleared new κs
  pub then : ClearingGrows new κs0 → ClearingGrows new κs
  pub from : ClearingGrows new κs → ClearingGrows new κs0

pub clearing-start : (new : Kept) (κs : List Kept) → IsClearing new κs [] κs
clearing-start new κs = record { same = refl; then = λ g. g; from = λ g. g }

snoc_append : (xs ys : List Kept) (x : Kept) → xs ++ x ∷ ys ≡ (xs ++ x ∷ []) ++ ys
snoc_append [] ys x = refl
snoc_append (y ∷ xs) ys x = ap (λ l. y ∷ l) (snoc_append xs ys x)

pub clearing-step : (new : Kept) (κs0 κs1 : List Kept) (κ : Kept) (κs : List Kept) (k : KeptRow) → IsClearing new κs0 κs1 (κ ∷ κs) → IsClearedRow new κ k → IsClearing new κs0 (κs1 ++ kept_of k ∷ []) κs
clearing-step new κs0 κs1 κ κs k s c = record {
  same = s.same ∙ (λ i. κs1 ++ sym c.same i ∷ cleared new κs) ∙ snoc_append κs1 (cleared new κs) (kept_of k);
  then = λ g. elim (s.then g) [
    | inl h ↦ absurd (c.calm h)
    | inr h ↦ h
  ];
  from = λ g. s.from (inr g);
}

-- where no kept row has the pivot, all stay as they are
away-cleared : (new : Kept) (κs : List Kept) → Each (λ κ. κ.line new.pivot ≡ num_zero) κs → (cleared new κs ≡ κs) × (ClearingGrows new κs → ⊥)
away-cleared new [] z = (refl, λ g. g)
away-cleared new (κ ∷ κs) z =
    let rest = away-cleared new κs z.1 in
    let own : record { pivot = κ.pivot; line = less κ.line new } ≡ κ = kept_same (record { pivot = κ.pivot; line = less κ.line new }) κ refl (λ u. less-zero κ.line new u z.0) in (
      (λ i. own i ∷ rest.0 i),
      λ g. elim g [
        | inl h ↦ h.0 z.0
        | inr h ↦ rest.1 h
      ],
    )

pub cleared-away : (marks : List Bool) (new : Kept) (ks : List KeptRow) → AreSeen marks (kepts ks) → AreRows ks → is_marked marks new.pivot ≡ false → AreCleared new (kepts ks) ks
cleared-away marks new ks s r f =
    let a = away-cleared new (kepts ks) (s.zero new.pivot f) in
    record { are_rows = r; same = sym a.0; calm = a.1 }

-- one kept row more, whose row is marked
seen-cleared : (new : Kept) (u : ℕ) → new.line u ≡ num_zero → (κs : List Kept) → Each (λ κ. κ.line u ≡ num_zero) κs → Each (λ κ. κ.line u ≡ num_zero) (cleared new κs)
seen-cleared new u e [] z = tt
seen-cleared new u e (κ ∷ κs) z = (less-none κ.line new u e ∙ z.0, seen-cleared new u e κs z.1)

pub seen-more : (old marks : List Bool) (κs : List Kept) (row left : List Entry) (ks : List KeptRow) → AreSeen old κs → AreMarked old row marks →
    IsReducedRow κs (coeff row) left → IsKeptRow κs (coeff left) ks → AreSeen marks (kepts ks)
seen-more old marks κs row left ks s m d k = record {
  len = m.len ∙ s.len;
  zero = λ u f.
      let z = s.zero u (m.kept u f) in
      let zero : coeff left u ≡ num_zero = (λ i. d.same i u) ∙ reduced-keeps κs (coeff row) u (m.zero u f) z in
      let new = scaled_by (coeff left) k.place k.inverse in
      let none : new.line u ≡ num_zero = ap (λ x. mul x k.inverse) zero ∙ num_zero-mul k.inverse in
      subst (Each (λ κ. κ.line u ≡ num_zero)) (sym k.same) (each_push (λ κ. κ.line u ≡ num_zero) (cleared new κs) new (seen-cleared new u none κs z) none);
}

pub seen-same : (marks marks' : List Bool) (ks ks' : List KeptRow) → marks' ≡ marks → ks' ≡ ks → AreSeen marks (kepts ks) → AreSeen marks' (kepts ks')
seen-same marks marks' ks ks' e p s = subst (λ x. AreSeen x (kepts ks')) (sym e) (subst (λ l. AreSeen marks (kepts l)) (sym p) s)

pub kepts-snoc : (ks : List KeptRow) (k : KeptRow) → kepts (ks ++ k ∷ []) ≡ kepts ks ++ kept_of k ∷ []
kepts-snoc [] k = refl
kepts-snoc (x ∷ ks) k = ap (λ l. kept_of x ∷ l) (kepts-snoc ks k)

pub rows-snoc : (ks : List KeptRow) (k : KeptRow) → AreRows ks → IsRow k.entries.items → AreRows (ks ++ k ∷ [])
rows-snoc ks k = each_push (λ k. IsRow k.entries.items) ks k

-- ---- at places of lists
pub clearing-at : (new : KeptRow) (all ks ks' out out' : List KeptRow) (old k : KeptRow) → IsClearing (kept_of new) (kepts all) (kepts out) (kepts ks) → AreRows out → ks ≡ old ∷ ks'
    → IsClearedRow (kept_of new) (kept_of old) k → out' ≡ out ++ k ∷ [] → IsClearing (kept_of new) (kepts all) (kepts out') (kepts ks') × AreRows out'
clearing-at new all ks ks' out out' old k s r h c o =
    let m : IsClearing (kept_of new) (kepts all) (kepts out) (kept_of old ∷ kepts ks') = subst (λ l. IsClearing (kept_of new) (kepts all) (kepts out) (kepts l)) h s in (
      subst (λ l. IsClearing (kept_of new) (kepts all) l (kepts ks')) (sym (ap kepts o ∙ kepts-snoc out k)) (clearing-step (kept_of new) (kepts all) (kepts out) (kept_of old) (kepts ks') k m c),
      subst AreRows (sym o) (rows-snoc out k r c.is_row),
    )

pub cleared-copy : (new old k : KeptRow) → k.pivot ≡ old.pivot → k.entries.items ≡ old.entries.items → IsRow old.entries.items → coeff old.entries.items new.pivot ≡ num_zero → IsClearedRow (kept_of new) (kept_of old) k
cleared-copy new old k p e r z = record {
  is_row = subst IsRow (sym e) r;
  same = kept_same (kept_of k) (record { pivot = old.pivot; line = less (coeff old.entries.items) (kept_of new) }) p (λ u. (λ i. coeff (e i) u) ∙ sym (less-zero (coeff old.entries.items) (kept_of new) u z));
  calm = λ g. g.0 z;
}

pub cleared-less : (new old k : KeptRow) (f : Number) → k.pivot ≡ old.pivot → f ≡ coeff old.entries.items new.pivot → IsDifference (coeff old.entries.items) f (coeff new.entries.items) k.entries.items → IsClearedRow (kept_of new) (kept_of old) k
cleared-less new old k f p e d =
    let m : IsDifference (coeff old.entries.items) (coeff old.entries.items new.pivot) (coeff new.entries.items) k.entries.items = subst (λ x. IsDifference (coeff old.entries.items) x (coeff new.entries.items) k.entries.items) e d in
    record {
      is_row = m.is_row;
      same = kept_same (kept_of k) (record { pivot = old.pivot; line = less (coeff old.entries.items) (kept_of new) }) p m.same;
      calm = λ g. m.calm g.1;
    }

pub cleared-grows : (new : KeptRow) (ρ : Line) (f : Number) → f ≡ ρ new.pivot → ρ new.pivot ≢ num_zero → TimesGrows ρ f (coeff new.entries.items) → LessGrows ρ (kept_of new)
cleared-grows new ρ f e z g = (z, subst (λ x. TimesGrows ρ x (coeff new.entries.items)) e g)

pub reducing-at : (ks : List KeptRow) (ρ0 ρ : Line) (i : ℕ) (k : KeptRow) → IsReducing (kepts ks) ρ0 (kepts (drop i ks)) ρ → i < length ks → k ≡ get_or ks i k → IsReducing (kepts ks) ρ0 (kept_of k ∷ kepts (drop (i + 1) ks)) ρ
reducing-at ks ρ0 ρ i k s h e = subst (λ l. IsReducing (kepts ks) ρ0 (kepts l) ρ) (drop_head ks i k h e) s

pub reducing-less : (ks : List KeptRow) (ρ0 ρ : Line) (i : ℕ) (k : KeptRow) (f : Number) (es : List Entry) → IsReducing (kepts ks) ρ0 (kepts (drop i ks)) ρ → i < length ks → k ≡ get_or ks i k
    → f ≡ ρ k.pivot → IsDifference ρ f (coeff k.entries.items) es → IsReducing (kepts ks) ρ0 (kepts (drop (i + 1) ks)) (coeff es)
reducing-less ks ρ0 ρ i k f es s h e p d =
    let m : IsDifference ρ (ρ k.pivot) (coeff k.entries.items) es = subst (λ x. IsDifference ρ x (coeff k.entries.items) es) p d in
    reducing-step (kepts ks) ρ0 (kept_of k) (kepts (drop (i + 1) ks)) ρ (coeff es) (reducing-at ks ρ0 ρ i k s h e) (line_path (coeff es) (less ρ (kept_of k)) m.same) (λ g. m.calm g.1)

pub reducing-grows : (ks : List KeptRow) (ρ0 ρ : Line) (i : ℕ) (k : KeptRow) (f : Number) → IsReducing (kepts ks) ρ0 (kepts (drop i ks)) ρ → i < length ks → k ≡ get_or ks i k
    → f ≡ ρ k.pivot → ρ k.pivot ≢ num_zero → TimesGrows ρ f (coeff k.entries.items) → ReducingGrows (kepts ks) ρ0
reducing-grows ks ρ0 ρ i k f s h e p z g = (reducing-at ks ρ0 ρ i k s h e).from (inl (cleared-grows k ρ f p z g))

-- ---- keeping
pub kept-made : (κs : List Kept) (ρ : Line) (new : KeptRow) (next out : List KeptRow) → IsScaledRow ρ new → AreCleared (kept_of new) κs next → out ≡ next ++ new ∷ [] → IsKeptRow κs ρ out
kept-made κs ρ new next out s c o = record {
  are_rows = subst AreRows (sym o) (rows-snoc next new c.are_rows s.is_row);
  place = new.pivot;
  inverse = s.inverse;
  pivot = s.pivot;
  same = ap kepts o ∙ kepts-snoc next new ∙ (λ i. c.same i ++ kept_of new ∷ []) ∙ (λ i. cleared (s.same i) κs ++ s.same i ∷ []);
  calm_line = s.calm;
  calm_clear = subst (λ κ. ClearingGrows κ κs → ⊥) s.same c.calm;
}

-- ---- one row more
pub state-at : (all : List Line) (κs : List Kept) (rs : List Row) (i : ℕ) (r : Row) → IsState all κs (lines (drop i rs)) → i < length rs → r ≡ get_or rs i r → IsState all κs (coeff r.entries.items ∷ lines (drop (i + 1) rs))
state-at all κs rs i r s h e = subst (λ l. IsState all κs (lines l)) (drop_head rs i r h e) s

pub skip-at : (all : List Line) (κs : List Kept) (ρ : Line) (ρs : List Line) (left : List Entry) → IsState all κs (ρ ∷ ρs) → IsReducedRow κs ρ left → length left ≡ 0 → IsState all κs ρs
skip-at all κs ρ ρs left s d z = state-skip all κs ρ ρs s d.calm (λ u. (λ i. sym d.same i u) ∙ coeff-empty left u z)

pub keep-at : (all : List Line) (κs : List Kept) (ρ : Line) (ρs : List Line) (left : List Entry) (ks : List KeptRow) → IsState all κs (ρ ∷ ρs) → IsReducedRow κs ρ left → IsKeptRow κs (coeff left) ks → IsState all (kepts ks) ρs
keep-at all κs ρ ρs left ks s d c =
    let k : IsKeptRow κs (reduced κs ρ) ks = subst (λ σ. IsKeptRow κs σ ks) d.same c in
    subst (λ l. IsState all l ρs) (sym k.same) (state-keep all κs ρ ρs k.place k.inverse s d.calm k.pivot k.calm_line k.calm_clear)

pub keep-fails : (all : List Line) (κs : List Kept) (ρ : Line) (ρs : List Line) (left : List Entry) → IsState all κs (ρ ∷ ρs) → IsReducedRow κs ρ left → CannotKeep κs (coeff left) → GrowsFrom [] all
keep-fails all κs ρ ρs left s d c =
    let k : CannotKeep κs (reduced κs ρ) = subst (λ σ. CannotKeep κs σ) d.same c in
    elim k.grows [
      | inl g ↦ grows-scaling all κs ρ ρs k.place k.inverse s k.pivot g
      | inr g ↦ grows-clearing all κs ρ ρs k.place k.inverse s k.pivot g
    ]

pub state-done : (all : List Line) (κs : List Kept) (rs : List Row) (i : ℕ) → IsState all κs (lines (drop i rs)) → length rs ≤ i → IsEliminated all κs
state-done all κs rs i s h =
    let d : drop i rs ≡ [] = drop_of_length-le rs h in
    let m : IsState all κs [] = subst (λ l. IsState all κs (lines l)) d s in
    record {
      is_reduced = m.is_reduced;
      same = record { both = λ n t. (λ a. ((m.same n t).0 a).0, λ b. (m.same n t).1 (b, tt)) };
      within = λ n a. (m.within n a).0;
      calm = state-end all κs m;
    }

-- ---- the same lists under other names
pub difference-same : (xs xs' ys ys' es es' : List Entry) (f : Number) → xs ≡ xs' → ys ≡ ys' → es' ≡ es → IsDifference (coeff xs) f (coeff ys) es → IsDifference (coeff xs') f (coeff ys') es'
difference-same xs xs' ys ys' es es' f p q r d = subst (λ x. IsDifference (coeff x) f (coeff ys') es') p (subst (λ y. IsDifference (coeff xs) f (coeff y) es') q (subst (λ e. IsDifference (coeff xs) f (coeff ys) e) (sym r) d))

pub times-same : (xs xs' ys ys' : List Entry) (f : Number) → xs ≡ xs' → ys ≡ ys' → TimesGrows (coeff xs) f (coeff ys) → TimesGrows (coeff xs') f (coeff ys')
times-same xs xs' ys ys' f p q g = subst (λ x. TimesGrows (coeff x) f (coeff ys')) p (subst (λ y. TimesGrows (coeff xs) f (coeff y)) q g)

pub reduced-same : (ks ks' : List KeptRow) (xs xs' es : List Entry) → ks ≡ ks' → xs ≡ xs' → IsReducedRow (kepts ks) (coeff xs) es → IsReducedRow (kepts ks') (coeff xs') es
reduced-same ks ks' xs xs' es p q d = subst (λ k. IsReducedRow (kepts k) (coeff xs') es) p (subst (λ x. IsReducedRow (kepts ks) (coeff x) es) q d)

pub reducing_same : (ks ks' : List KeptRow) (xs xs' : List Entry) → ks ≡ ks' → xs ≡ xs' → ReducingGrows (kepts ks) (coeff xs) → ReducingGrows (kepts ks') (coeff xs')
reducing_same ks ks' xs xs' p q d = subst (λ k. ReducingGrows (kepts k) (coeff xs')) p (subst (λ x. ReducingGrows (kepts ks) (coeff x)) q d)

pub kept-same : (ks ks' out out' : List KeptRow) (xs xs' : List Entry) → ks ≡ ks' → xs ≡ xs' → out' ≡ out → IsKeptRow (kepts ks) (coeff xs) out → IsKeptRow (kepts ks') (coeff xs') out'
kept-same ks ks' out out' xs xs' p q r d = subst (λ k. IsKeptRow (kepts k) (coeff xs') out') p (subst (λ x. IsKeptRow (kepts ks) (coeff x) out') q (subst (IsKeptRow (kepts ks) (coeff xs)) (sym r) d))

pub cannot-same : (ks ks' : List KeptRow) (xs xs' : List Entry) → ks ≡ ks' → xs ≡ xs' → CannotKeep (kepts ks) (coeff xs) → CannotKeep (kepts ks') (coeff xs')
cannot-same ks ks' xs xs' p q d = subst (λ k. CannotKeep (kepts k) (coeff xs')) p (subst (λ x. CannotKeep (kepts ks) (coeff x)) q d)

pub err-same : {X P : Type 0} (r : Result X EliminateFault) (f : EliminateFault) → IsErrAnd r (λ e. e ≡ f) → (f ≡ TooLarge → P) → IfErr r (λ e. e ≡ TooLarge → P)
err-same (Ok x) f h g = tt
err-same (Err e) f h g = λ p. g (sym h ∙ p)
