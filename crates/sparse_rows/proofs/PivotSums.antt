-- The sums that kept rows give for their pivots.
--   dot-entries    rows added up over their entries
--   last-split, row, below, entry, row-take, row-has ..    the last entry of a leading row
--   pivot-sum    the sum
--   IsTurning, turning-start, turning-at, turning-end    the other signs, entry by entry
--   leading-at, solved-at, solved-end    all rows
use Rattle.list_laws.proofs.Kit.{◌≡◌, ◌≢◌, ℕ, zero, suc, ◌+◌, ◌<◌, ◌≤◌, ◌↔◌, inl, inr, List, [], ◌∷◌, ◌++◌, length, take, drop, get_or, refl, ap}
use Rattle.list_laws.proofs.Kit.{sym, ◌∙◌, subst, arith, false, cases_eq, cases_order, cases_Bool, drop_all, take_all, take_more}
use Rattle.list_laws.proofs.Prelude.{drop_head, each_map, each_push, each_read, each_split, each_take}
use Rattle.number_laws.proofs.Sameness.{one_not_zero}
use lib.IntN.{negsuc}
use Rattle.tensor_defs.specs.Prelude.{Each, Number, add, mul, neg, num_zero, num_one, whole, value_of, Line, Kept}
use Rattle.number_laws.proofs.NumberLaws.{num_add-zero, num_zero-add, num_zero-mul, num_one-mul, num_mul_comm, num_add_comm, num_add_assoc, num_add_left_comm, num_add-mul}
use Rattle.exact_frac.specs.Held.{IsHeldAs}
use Rattle.sparse_rows.specs.Prelude.{part, coeff, Above, IsEntry, IsRow, dot, IsLeading, IsReduced, sum_entries, IsNegated, IsPivotSum, IsSolved, AreSolved}
use Rattle.sparse_rows.specs.Prelude.{is_pivot, kept_of, kepts}
use Rattle.sparse_rows.specs.declared.entry.KeptRow.{KeptRow}
use Rattle.sparse_rows.specs.declared.entry.PivotSum.{PivotSum}
use Rattle.sparse_rows.specs.declared.entry.Entry.{Entry}
use Rattle.sparse_rows.proofs.Lines.{dot-scaled}
use Rattle.sparse_rows.proofs.Pivots.{from_sum, to_sum, IsPivotRow, pivot_rows}
use Rattle.sparse_rows.proofs.Merging.{part-own, part-other, coeff-head, coeff-tail, coeff-below, coeff-snoc, neg-not_zero}
use Rattle.sparse_rows.proofs.RowSteps.{IsScaling, scaling-start, scaling-step, scaling-same, found-entry, kepts-snoc}

-- ---- rows added up over their entries
dot-none : (n : ℕ) (e : Entry) (t : ℕ → Number) → n ≤ e.unknown → dot n (part e) t ≡ num_zero
dot-none zero e t h = refl
dot-none (suc n) e t h =
    (λ i. add (mul (part-other e n (λ p. omega (arith, p, h)) i) (t n)) (dot-none n e t (omega (arith, h)) i))
    ∙ ap (λ x. add x num_zero) (num_zero-mul (t n)) ∙ num_add-zero num_zero

dot-part : (n : ℕ) (e : Entry) (t : ℕ → Number) → e.unknown < n → dot n (part e) t ≡ mul (value_of e.value) (t e.unknown)
dot-part zero e t h = absurd (omega (arith, h))
dot-part (suc n) e t h = elim (cases_eq n e.unknown) [
  | inl p ↦
      (λ i. add (mul (part-own e n p i) (t (p i))) (dot-none n e t (omega (arith, p)) i)) ∙ num_add-zero _
  | inr p ↦
      (λ i. add (mul (part-other e n p i) (t n)) (dot-part n e t (omega (arith, p, h)) i))
      ∙ ap (λ x. add x (mul (value_of e.value) (t e.unknown))) (num_zero-mul (t n)) ∙ num_zero-add _
]

dot-add : (n : ℕ) (ρ σ : Line) (t : ℕ → Number) → dot n (λ u. add (ρ u) (σ u)) t ≡ add (dot n ρ t) (dot n σ t)
dot-add zero ρ σ t = sym (num_add-zero num_zero)
dot-add (suc n) ρ σ t =
    (λ i. add (num_add-mul (ρ n) (σ n) (t n) i) (dot-add n ρ σ t i))
    ∙ law (mul (ρ n) (t n)) (mul (σ n) (t n)) (dot n ρ t) (dot n σ t)
  where
    law : (a b c d : Number) → add (add a b) (add c d) ≡ add (add a c) (add b d)
    law a b c d = simp (num_add_assoc, num_add_left_comm)

pub dot-entries : (n : ℕ) (es : List Entry) (t : ℕ → Number) → Each (λ e. e.unknown < n) es → dot n (coeff es) t ≡ sum_entries es t
dot-entries n [] t h = none n
  where
    none : (n : ℕ) → dot n (λ u. num_zero) t ≡ num_zero
    none zero = refl
    none (suc n) = (λ i. add (num_zero-mul (t n) i) (none n i)) ∙ num_add-zero num_zero
dot-entries n (e ∷ es) t h =
    dot-add n (part e) (coeff es) t ∙ (λ i. add (dot-part n e t h.0 i) (dot-entries n es t h.1 i))

-- ---- the last entry of a leading row
pub last-split : (k : ℕ) (xs : List Entry) → length xs ≡ suc k → (x : Entry) × (xs ≡ take k xs ++ x ∷ [])
last-split k [] h = absurd (omega (arith, h))
last-split zero (x ∷ []) h = (x, refl)
last-split zero (x ∷ y ∷ ys) h = absurd (omega (arith, h))
last-split (suc k) (x ∷ xs) h = let r = last-split k xs (omega (arith, h)) in (r.0, ap (λ l. x ∷ l) r.1)

record IsInit (xs : List Entry) (x : Entry) : Type 0 where
  pub row : IsRow xs
  pub below : Each (λ e. e.unknown < x.unknown) xs
  pub entry : IsEntry x

row_init : (xs : List Entry) (x : Entry) → IsRow (xs ++ x ∷ []) → IsInit xs x
row_init [] x r = record { row = tt; below = tt; entry = r.1 }
row_init (y ∷ ys) x r =
    let s = row_init ys x r.2 in
    let a = each_split (λ e. y.unknown < e.unknown) ys (x ∷ []) r.0 in
    record { row = (a.0, r.1, s.row); below = (a.1.0, s.below); entry = s.entry }

pub row-take : (xs : List Entry) (k : ℕ) → IsRow xs → IsRow (take k xs)
row-take xs zero r = tt
row-take [] (suc k) r = tt
row-take (x ∷ xs) (suc k) r = (each_take (λ e. x.unknown < e.unknown) xs k r.0, r.1, row-take xs k r.2)

pub row-has : (p : ℕ) (xs : List Entry) → IsLeading (record { pivot = p; line = coeff xs }) → 0 < length xs
row-has p [] l = absurd (one_not_zero (sym l.own))
row-has p (x ∷ xs) l = omega arith

record IsLast (p : ℕ) (x : Entry) : Type 0 where
  pub place : x.unknown ≡ p
  pub one : value_of x.value ≡ num_one

last-is : (p : ℕ) (xs : List Entry) (x : Entry) → IsInit xs x → IsLeading (record { pivot = p; line = coeff (xs ++ x ∷ []) }) → IsLast p x
last-is p xs x i l = record { place = place; one = sym at-last ∙ ap (coeff (xs ++ x ∷ [])) place ∙ l.own }
  where
    at-last : coeff (xs ++ x ∷ []) x.unknown ≡ value_of x.value
    at-last =
        coeff-snoc xs x x.unknown
        ∙ (λ j. add (coeff-below xs x.unknown i.below j) (part-own x x.unknown refl j)) ∙ num_zero-add _

    past : x.unknown < p → coeff (xs ++ x ∷ []) p ≡ num_zero
    past h =
        coeff-snoc xs x p
        ∙ (λ j. add (coeff-below xs p (each_map (λ e. e.unknown < x.unknown) (λ e. e.unknown < p) (λ e k. omega (arith, h, k)) xs i.below) j)
        (part-other x p (λ q. omega (arith, h, q)) j)) ∙ num_add-zero num_zero

    place : x.unknown ≡ p
    place = elim (cases_order x.unknown p) [
      | inl e ↦ e
      | inr k ↦ elim k [
        | inl h ↦ absurd (one_not_zero (sym l.own ∙ past h))
        | inr h ↦ absurd (i.entry.not_zero (sym at-last ∙ l.after x.unknown h))
      ]
    ]

-- ---- the sum
pub pivot-sum : (p : ℕ) (all : List Entry) (k : ℕ) (xs es : List Entry) → IsRow all → IsLeading (record { pivot = p; line = coeff all }) → length all ≡ suc k → xs ≡ take k all → IsNegated xs es → IsPivotSum (record { pivot = p; line = coeff all }) es
pivot-sum p all k xs es r l h e n =
    let s = last-split k all h in
    let x = s.0 in
    let c : all ≡ xs ++ x ∷ [] = s.1 ∙ ap (λ ys. ys ++ x ∷ []) (sym e) in
    let i = row_init xs x (subst IsRow c r) in
    let o = last-is p xs x i (subst (λ ys. IsLeading (record { pivot = p; line = coeff ys })) c l) in
    let b : Each (λ y. y.unknown < p) xs = subst (λ q. Each (λ y. y.unknown < q) xs) o.place i.below in
    let line : (u : ℕ) → coeff all u ≡ add (coeff xs u) (part x u) = λ u. (λ j. coeff (c j) u) ∙ coeff-snoc xs x u in
    record {
      is_row = n.is_row;
      before = n.below p b;
      same = λ u q. n.same u ∙ ap neg (sym (line u ∙ ap (add (coeff xs u)) (part-other x u (λ w. q (w ∙ o.place))) ∙ num_add-zero (coeff xs u)));
      solved = λ m t g. solved-at p all xs es x n o b line m t g;
    }
  where
    wide : (q m : ℕ) (ys : List Entry) → q < m → Each (λ y. y.unknown < q) ys → Each (λ y. y.unknown < m) ys
    wide q m ys g = each_map (λ y. y.unknown < q) (λ y. y.unknown < m) (λ y a. omega (arith, g, a)) ys

    solved-at : (p : ℕ) (all xs es : List Entry) (x : Entry) → IsNegated xs es → IsLast p x → Each (λ y. y.unknown < p) xs → ((u : ℕ) → coeff all u ≡ add (coeff xs u) (part x u)) → (m : ℕ) (t : ℕ → Number) → p < m → (dot m (coeff all) t ≡ num_zero) ↔ (t p ≡ sum_entries es t)
    solved-at p all xs es x n o b line m t g =
        let split : dot m (coeff all) t ≡ add (t p) (dot m (coeff xs) t) =
        (λ j. dot m (λ u. line u j) t) ∙ dot-add m (coeff xs) (part x) t ∙ num_add_comm (dot m (coeff xs) t) (dot m (part x) t)
        ∙ ap (λ y. add y (dot m (coeff xs) t)) (dot-part m x t (subst (λ q. q < m) (sym o.place) g) ∙ (λ j. mul (o.one j) (t (o.place j))) ∙ num_one-mul (t p)) in
        let other : neg (dot m (coeff xs) t) ≡ sum_entries es t =
        dot-scaled m (whole (negsuc 0)) (coeff es) (coeff xs) t (λ u. sym (n.same u)) ∙ dot-entries m es t (wide p m es g (n.below p b)) in
        (λ z. from_sum (t p) (dot m (coeff xs) t) (sym split ∙ z) ∙ other, λ z. split ∙ to_sum (t p) (dot m (coeff xs) t) (z ∙ sym other))

-- ---- the other signs, entry by entry
pub record IsTurning (xs A out : List Entry) : Type 0 where
  pub scaling : IsScaling (coeff xs) (whole (negsuc 0)) A out
  pub below : (k : ℕ) → Each (λ e. e.unknown < k) xs → Each (λ e. e.unknown < k) out

pub turning-start : (xs out : List Entry) → IsRow xs → out ≡ [] → IsTurning xs xs out
turning-start xs out r o = subst (IsTurning xs xs) (sym o) (record { scaling = scaling-start xs (whole (negsuc 0)) r; below = λ k b. tt })

pub turning-at : (xs : List Entry) (i : ℕ) (a e : Entry) (out out' : List Entry) → IsTurning xs (drop i xs) out → IsRow xs → i < length xs → a ≡ get_or xs i a → e.unknown ≡ a.unknown → IsHeldAs (neg (value_of a.value)) e.value → out' ≡ out ++ e ∷ [] → IsTurning xs (drop (i + 1) xs) out'
turning-at xs i a e out out' m r h p q v o = subst (IsTurning xs (drop (i + 1) xs)) (sym o) (record {
  scaling = scaling-step (coeff xs) (whole (negsuc 0)) a e (drop (i + 1) xs) out
      (subst (λ A. IsScaling (coeff xs) (whole (negsuc 0)) A out) (drop_head xs i a h p) m.scaling) q
      (sym v.same ∙ num_mul_comm (whole (negsuc 0)) (value_of a.value))
      (record { held = v.held; not_zero = λ z. neg-not_zero (value_of a.value) (found-entry xs i a r h p).not_zero (v.same ∙ z) });
  below = λ k b. each_push (λ x. x.unknown < k) out e (m.below k b) (subst (λ u. u < k) (sym q) (each_read (λ x. x.unknown < k) xs b i a h p));
})

pub turning-end : (xs : List Entry) (i : ℕ) (out : List Entry) → IsTurning xs (drop i xs) out → length xs ≤ i → IsNegated xs out
turning-end xs i out m h =
    let s = subst (λ A. IsScaling (coeff xs) (whole (negsuc 0)) A out) (drop_all i xs h) m.scaling in
    record {
      is_row = s.row_out;
      same = λ u. scaling-same (coeff xs) (whole (negsuc 0)) out s u ∙ num_mul_comm (coeff xs u) (whole (negsuc 0));
      below = m.below;
    }

-- ---- all rows
entry_values : (es : List Entry) → IsRow es → Each (λ e. (coeff es e.unknown ≡ value_of e.value) × IsEntry e) es
entry_values [] r = tt
entry_values (e ∷ es) r =
    ((coeff-head e es e.unknown refl r.0, r.1), later es (entry_values es r.2) r.0)
  where
    later : (xs : List Entry) → Each (λ x. (coeff es x.unknown ≡ value_of x.value) × IsEntry x) xs → Above e.unknown xs → Each (λ x. (coeff (e ∷ es) x.unknown ≡ value_of x.value) × IsEntry x) xs
    later [] h a = tt
    later (x ∷ xs) h a = let k = a.0 in ((coeff-tail e es x.unknown (λ p. omega (arith, p, k)) ∙ h.0.0, h.0.1), later xs h.1 a.1)

-- the unknowns of a pivot's sum are free
sum_free : (all : List Kept) (κ : Kept) (es : List Entry) → IsPivotRow all κ → IsPivotSum κ es → Each (λ e. is_pivot all e.unknown ≡ false) es
sum_free all κ es r s = go es (entry_values es s.is_row) s.before
  where
    neg_none : neg num_zero ≡ num_zero
    neg_none = num_mul_comm (whole (negsuc 0)) num_zero ∙ num_zero-mul (whole (negsuc 0))

    go : (xs : List Entry) → Each (λ e. (coeff es e.unknown ≡ value_of e.value) × IsEntry e) xs → Each (λ e. e.unknown < κ.pivot) xs → Each (λ e. is_pivot all e.unknown ≡ false) xs
    go [] h b = tt
    go (x ∷ xs) h b =
        let k = b.0 in
        let other : x.unknown ≢ κ.pivot = λ p. omega (arith, p, k) in (
          elim (cases_Bool (is_pivot all x.unknown)) [
            | inl q ↦ absurd (h.0.1.not_zero (sym h.0.0 ∙ s.same x.unknown other ∙ ap neg (r.others x.unknown q other) ∙ neg_none))
            | inr q ↦ q
          ],
          go xs h.1 b.1,
        )

solved_snoc : (all κs : List Kept) (ss : List PivotSum) (κ : Kept) (s : PivotSum) → AreSolved all κs ss → IsSolved all κ s → AreSolved all (κs ++ κ ∷ []) (ss ++ s ∷ [])
solved_snoc all [] [] κ s h k = (k, tt)
solved_snoc all [] (t ∷ ss) κ s h k = absurd h
solved_snoc all (l ∷ κs) [] κ s h k = absurd h
solved_snoc all (l ∷ κs) (t ∷ ss) κ s h k = (h.0, solved_snoc all κs ss κ s h.1 k)

kept-at : (P : Kept → Type 0) (ks : List KeptRow) (i : ℕ) (k : KeptRow) → i < length ks → k ≡ get_or ks i k → Each P (kepts ks) → P (kept_of k)
kept-at P [] i k h e p = absurd (omega (arith, h))
kept-at P (x ∷ ks) zero k h e p = subst (λ y. P (kept_of y)) (sym e) p.0
kept-at P (x ∷ ks) (suc i) k h e p = kept-at P ks i k (omega (arith, h)) e p.1

pub leading-at : (ks : List KeptRow) (i : ℕ) (k : KeptRow) → i < length ks → k ≡ get_or ks i k → IsReduced (kepts ks) → IsLeading (kept_of k)
leading-at ks i k h e r = kept-at IsLeading ks i k h e r.leading

pub solved-at : (ks : List KeptRow) (i : ℕ) (k : KeptRow) (ss ss' : List PivotSum) (s : PivotSum) → AreSolved (kepts ks) (kepts (take i ks)) ss → IsReduced (kepts ks) → i < length ks → k ≡ get_or ks i k
    → s.pivot ≡ k.pivot → IsPivotSum (kept_of k) s.terms.items → ss' ≡ ss ++ s ∷ [] → AreSolved (kepts ks) (kepts (take (i + 1) ks)) ss'
solved-at ks i k ss ss' s m r h e p q o =
    let row = kept-at (IsPivotRow (kepts ks)) ks i k h e (pivot_rows (kepts ks) r.leading r.apart) in
    subst (λ l. AreSolved (kepts ks) l ss') (sym (ap kepts (take_more ks i k h) ∙ kepts-snoc (take i ks) (get_or ks i k) ∙ (λ j. kepts (take i ks) ++ kept_of (sym e j) ∷ [])))
    (subst (AreSolved (kepts ks) (kepts (take i ks) ++ kept_of k ∷ [])) (sym o)
    (solved_snoc (kepts ks) (kepts (take i ks)) ss (kept_of k) s m (record { pivot = p; sum = q; free = sum_free (kepts ks) (kept_of k) s.terms.items row q })))

pub solved-end : (ks : List KeptRow) (i : ℕ) (ss : List PivotSum) → AreSolved (kepts ks) (kepts (take i ks)) ss → length ks ≤ i → AreSolved (kepts ks) (kepts ks) ss
solved-end ks i ss m h = subst (λ l. AreSolved (kepts ks) (kepts l) ss) (take_all i ks h) m
