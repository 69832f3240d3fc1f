-- Tables on the hexagonal axes: the component lists that representatives and the rows of words leave are the invariant
-- tensors.
--   system_exists    sound classes have unknowns
--   word_lines, words_given, group_closed    the rows of words
--   axis_fits, axis_grows, axis_calm    the same where the rank is that of a shape
use Rattle.list_laws.proofs.Kit.{[], ◌≡◌, ℕ, zero, suc, ◌+◌, ◌^◌, ◌<◌, ◌≤◌, ◌↔◌, Bool, true, false, List, ◌∷◌, cond, length, get_or, replicate, refl, ap, sym}
use Rattle.list_laws.proofs.Kit.{◌∙◌, subst, arith, inl, inr, add-one, cases_eq, cases_lt, cases_Bool, le-ltb, length-replicate, none-some, same_Some}
use Rattle.std.specs.Prelude.{Contains, filter, nat_lt, slice_set, unsigned_abs}
use Rattle.constraint_rows.proofs.GatherLaws.{order_total}
use Rattle.list_laws.proofs.Prelude.{option_cases, each_map, each_at}
use Rattle.tensor_defs.specs.declared.Sign.{Sign}
use Rattle.tensor_defs.specs.declared.Sign.TheVariants.{Plus, Minus}
use Rattle.tensor_defs.specs.Prelude.{AreRepresentatives, AreUnknowns, Grows, GrowsFrom, by_place, carried, rows_of, share, AllOf, IsFramed, IsPlain}
use Rattle.tensor_defs.specs.Prelude.{IsInvariant, JahnSymbol, rank, Each, Number, limit, mul, num_one, num_zero, Operation, Fits, Table, Index, Tensor}
use Rattle.tensor_defs.specs.Prelude.{component_number, index_of, sum_indices, Word, even_row, is_used, odd_row, words}
use Rattle.number_laws.proofs.NumberLaws.{num_mul-one, num_one-mul}
use Rattle.tensor_laws.proofs.Prelude.{length-index_of, number-index_of, product_unique}
use Rattle.magnetic_groups.specs.Sets.{In, IsGroup}
use Rattle.sign_moves.specs.declared.classes.Entry.{Entry}
use Rattle.sign_moves.specs.Prelude.{first_at, vanishes_at, signed}
use Rattle.tensor_rank.specs.Prelude.{component_below_at, index_number_at, Ordering, before_at, before_of, ShapeValue, IsShapeOf, orders_are_orders}
use Rattle.constraint_rows.specs.Prelude.{class_at, AreParts, AreSound, AreWordRows, IsCarriedRow, IsGiven, IsOwn, carried_to, carrier_of}
use Rattle.constraint_rows.specs.declared.rows.Part.{Part}
use Rattle.sparse_rows.specs.Solutions.{Solve}
use Rattle.axis_laws.specs.Laws.{IsClosed, OneElimination, RowsDecideInvariance, SolvesRows, SolvesWords}
use Rattle.reduced_form.specs.Prelude.{IsSystem, ArePlaces, IsFreeUpTo, free_at, FitsSet, IsSolution, line_at, lines_at}
use Rattle.reduced_form.proofs.FreeLaws.{free_apart, free_inserted, free_passes, free_start, places_next}
use Rattle.reduced_form.proofs.Systems.{are_unknowns, index_at, index_list, long, solve_sums, sums_solve}

-- ---- sound classes have unknowns
data Place (before : ℕ → ℕ → Bool) (free : List ℕ) (c : ℕ) : Type 0 where
  found : (p : ℕ) → p ≤ length free → ((k : ℕ) → p ≤ k → k < length free → before c (free_at free k) ≡ true) →
      ((k : ℕ) → k + 1 ≡ p → before c (free_at free k) ≡ false) → Place before free c

find_place : (before : ℕ → ℕ → Bool) (free : List ℕ) (c p : ℕ) → p ≤ length free →
    ((k : ℕ) → p ≤ k → k < length free → before c (free_at free k) ≡ true) → Place before free c
find_place before free c zero h after = found 0 h after (λ k e. absurd (omega (arith, e)))
find_place before free c (suc p) h after = elim (cases_Bool (before c (free_at free p))) [
  | inl e ↦ find_place before free c p (omega (arith, h)) (λ k l m. elim (cases_eq p k) [
    | inl q ↦ subst (λ x. before c (free_at free x) ≡ true) q e
    | inr q ↦ after k (omega (arith, l, q)) m
  ])
  | inr e ↦ found (suc p) h after (λ k q. let same : p ≡ k = omega (arith, q) in subst (λ x. before c (free_at free x) ≡ false) same e)
]

module _ (n r : ℕ) (size : n ≡ 3 ^ r) (o : Ordering) (es : List Entry) where
  free_exists : (end : ℕ) → end ≤ n → (free : List ℕ) × IsFreeUpTo n (before_at r o) es free end
  free_exists zero h = ([], free_start n (before_at r o) es)
  free_exists (suc c) h =
      let before = free_exists c (omega (arith, h)) in
      let next : (free : List ℕ) × IsFreeUpTo n (before_at r o) es free (c + 1) = step c (omega (arith, h)) before.0 before.1 in
      (next.0, subst (λ m. IsFreeUpTo n (before_at r o) es next.0 m) (add-one c) next.1)
    where
      put : (c : ℕ) → c < n → (free : List ℕ) → IsFreeUpTo n (before_at r o) es free c → vanishes_at es c ≡ false → first_at es c ≡ c → Place (before_at r o) free c →
          (new : List ℕ) × IsFreeUpTo n (before_at r o) es new (c + 1)
      put c h free f v e (found p within after stops) = (_, free_inserted f h v e (order_total n r size o) p within after stops)

      step : (c : ℕ) → c < n → (free : List ℕ) → IsFreeUpTo n (before_at r o) es free c → (new : List ℕ) × IsFreeUpTo n (before_at r o) es new (c + 1)
      step c h free f = elim (cases_Bool (vanishes_at es c)) [
        | inl v ↦ (free, free_passes f (λ w e. let clash : true ≡ false = sym v ∙ w in cc))
        | inr v ↦ elim (cases_eq (first_at es c) c) [
          | inl e ↦ put c h free f v e (find_place (before_at r o) free c (length free) (omega arith) (λ k l m. absurd (omega (arith, l, m))))
          | inr e ↦ (free, free_passes f (λ w q. e q))
        ]
      ]

  places_exist : (free : List ℕ) → IsFreeUpTo n (before_at r o) es free n → (end : ℕ) → end ≤ length free → (places : List ℕ) × ArePlaces n free places end
  places_exist free f zero h = (replicate n 0, record { len = length-replicate n 0; place = λ k l. absurd (omega (arith, l)) })
  places_exist free f (suc k) h =
      let before = places_exist free f k (omega (arith, h)) in
      let inside : k < length free = omega (arith, h) in
      let apart = free_apart (order_total n r size o).apart f in
      let next : List ℕ = slice_set before.0 (free_at free k) k in
      (next, subst (λ m. ArePlaces n free next m) (add-one k) (places_next before.1 apart inside (free_at free k) k refl (f.below k inside) refl))

  pub system_exists : AreSound n (before_at r o) es → (us : List ℕ) × (places : List ℕ) × IsSystem n r o es us places
  system_exists sound =
      let f = free_exists n (omega arith) in
      let p = places_exist f.0 f.1 (length f.0) (omega arith) in
      (f.0, p.0, record { size = size; sound = sound; unknowns = f.1; placed = p.1 })

-- ---- the rows of words
by_place_same : (r : ℕ) (us : List Index) (f g : Index → Number) → Each (λ c. length c ≡ r) us → ((c : Index) → length c ≡ r → f c ≡ g c) → by_place us f ≡ by_place us g
by_place_same r us f g of_rank e = λ i k. at k i
  where
    at : (k : ℕ) → by_place us f k ≡ by_place us g k
    at k = elim (cases_lt k (length us)) as (λ _. by_place us f k ≡ by_place us g k) [
      | inl h ↦ ap (λ x. cond (nat_lt k (length us)) x num_zero) (e (get_or us k []) (each_at (λ c. length c ≡ r) us of_rank k [] h))
      | inr h ↦ ap (λ b. cond b (f (get_or us k [])) num_zero) (le-ltb k (length us) h) ∙ ap (λ b. cond b (g (get_or us k [])) num_zero) (sym (le-ltb k (length us) h))
    ]

word_line : (r : ℕ) (before : ℕ → ℕ → Bool) (es : List Entry) (us : List Index) (k : Index → Number) (ps : List Part) → Each (λ c. length c ≡ r) us → IsCarriedRow r before es k ps →
    line_at us ps ≡ carried (carrier_of r es) r us k
word_line r before es us k ps of_rank h = by_place_same r us _ _ of_rank (λ c l.
    h.carried (component_number c) (component_below_at r c l)
    ∙ ap (λ u. sum_indices r (λ d. share (carrier_of r es d) (k d) u)) (index_number_at r c l))

pub word_lines : (r : ℕ) (before : ℕ → ℕ → Bool) (es : List Entry) (us : List Index) → Each (λ c. length c ≡ r) us → (ws : List Word) (rows : List (List Part)) → AreWordRows r before es ws rows →
    lines_at us rows ≡ rows_of (carrier_of r es) r us ws
word_lines r before es us of_rank [] [] h = refl
word_lines r before es us of_rank [] (a ∷ rows) h = absurd h
word_lines r before es us of_rank (w ∷ ws) [] h = absurd h
word_lines r before es us of_rank (w ∷ ws) (a ∷ []) h = absurd h
word_lines r before es us of_rank (w ∷ ws) (a ∷ b ∷ rows) h =
    λ i. word_line r before es us (even_row w) a of_rank h.0 i ∷ word_line r before es us (odd_row w) b of_rank h.1 i
    ∷ word_lines r before es us of_rank ws rows h.2 i

row_given : (r : ℕ) (before : ℕ → ℕ → Bool) (es : List Entry) (k : Index → Number) (ps : List Part) → IsCarriedRow r before es k ps → IsGiven before es ps
row_given r before es k ps h = record {
  rising = h.rising;
  own = h.own;
  small = each_map (λ p. unsigned_abs p.number ≤ 729) (λ p. unsigned_abs p.number < limit) (λ p l. omega (arith, l)) ps h.few;
}

pub words_given : (r : ℕ) (before : ℕ → ℕ → Bool) (es : List Entry) (ws : List Word) (rows : List (List Part)) → AreWordRows r before es ws rows → Each (IsGiven before es) rows
words_given r before es [] [] h = tt
words_given r before es [] (a ∷ rows) h = absurd h
words_given r before es (w ∷ ws) [] h = absurd h
words_given r before es (w ∷ ws) (a ∷ []) h = absurd h
words_given r before es (w ∷ ws) (a ∷ b ∷ rows) h =
    (row_given r before es (even_row w) a h.0, (row_given r before es (odd_row w) b h.1, words_given r before es ws rows h.2))

pub group_closed : (hs : List Operation) → IsGroup hs → IsClosed hs
group_closed hs g = record {
  closed = λ a b k p q h.
      let c = g.closed a b p q in
      subst (λ x. Contains hs x) (product_unique a b c.0 k c.2 h) c.1;
}

signed_times : (s : Sign) (x : Number) → signed s x ≡ mul (signed s num_one) x
signed_times Plus x = sym (num_one-mul x)
signed_times Minus x = ap (λ y. mul y x) (sym (num_mul-one _))

-- ---- the tables
abbrev used : ℕ → List Word
used r = filter is_used (words r)

-- the component lists that classes and rows leave are those that follow the representatives, and on which the words of
-- these rows add up to zero
module _ (n r : ℕ) (o : Ordering) (es : List Entry) (ws : List Word) (rows : List (List Part)) (us places : List ℕ)
    (sys : IsSystem n r o es us places) (are_words : AreWordRows r (before_at r o) es ws rows) (parts : Each (AreParts n) rows) (t : Tensor) where
  abbrev U : List Index
  U = index_list r us

  rep_rows : lines_at U rows ≡ rows_of (carrier_of r es) r U ws
  rep_rows = word_lines r (before_at r o) es U (are_unknowns sys).of_rank ws rows are_words

  owns : Each (λ ps. Each (λ p. IsOwn es p.component) ps) rows
  owns = each_map (IsGiven (before_at r o) es) (λ ps. Each (λ p. IsOwn es p.component) ps) (λ ps g. g.own) rows
      (words_given r (before_at r o) es ws rows are_words)

  values : (k : ℕ) → k < length us → t (get_or U k []) ≡ t (index_of r (free_at us k))
  values k h = ap t (index_at sys k h)

  pub solution_solves : IsSolution r es rows t → SolvesWords r (carrier_of r es) U ws t
  solution_solves sol = record {
    none = λ c l e. elim (option_cases (class_at es (component_number c))) [
      | inl z ↦ ap t (sym (index_number_at r c l)) ∙ sol.none (component_number c) (component_below_at r c l) z
      | inr z ↦ absurd (none-some _ (sym e ∙ ap (carried_to r) z.1))
    ];
    some = λ c d s l e. elim (option_cases (class_at es (component_number c))) [
      | inl z ↦ absurd (none-some (d, s) (sym (ap (carried_to r) z) ∙ e))
      | inr z ↦
          let told = same_Some (index_of r z.0.0, signed z.0.1 num_one) (d, s) (sym (ap (carried_to r) z.1) ∙ e) in
          ap t (sym (index_number_at r c l))
          ∙ sol.some (component_number c) z.0.0 z.0.1 (component_below_at r c l) z.1
          ∙ signed_times z.0.1 (t (index_of r z.0.0)) ∙ (λ i. mul (told i).1 (t (told i).0))
    ];
    rows = subst (λ m. Solve m (λ k. t (get_or U k [])) (rows_of (carrier_of r es) r U ws)) (sym (long sys))
        (subst (Solve (length us) (λ k. t (get_or U k []))) rep_rows
        (sums_solve sys t (λ k. t (get_or U k [])) values rows parts owns sol.sums));
  }

  pub solves_solution : SolvesWords r (carrier_of r es) U ws t → IsSolution r es rows t
  solves_solution s = record {
    none = λ c h e. s.none (index_of r c) (length-index_of r c) (ap (λ m. carried_to r (class_at es m)) (number_of c h) ∙ ap (carried_to r) e);
    some = λ c d g h e.
        s.some (index_of r c) (index_of r d) (signed g num_one) (length-index_of r c)
        (ap (λ m. carried_to r (class_at es m)) (number_of c h) ∙ ap (carried_to r) e)
        ∙ sym (signed_times g (t (index_of r d)));
    sums = solve_sums sys t (λ k. t (get_or U k [])) values rows parts owns
        (subst (Solve (length us) (λ k. t (get_or U k []))) (sym rep_rows)
        (subst (λ m. Solve m (λ k. t (get_or U k [])) (rows_of (carrier_of r es) r U ws)) (long sys) s.rows));
  }
    where
      number_of : (c : ℕ) → c < 3 ^ r → component_number (index_of r c) ≡ c
      number_of c h = number-index_of r c h

module _ (hs : List Operation) (n : ℕ) (o : Ordering) (es : List Entry) (rows : List (List Part)) (j : JahnSymbol) where
  module _ (size : n ≡ 3 ^ rank j) (sound : AreSound n (before_at (rank j) o) es) (are_words : AreWordRows (rank j) (before_at (rank j) o) es (used (rank j)) rows)
      (reps : AreRepresentatives j (In hs) (before_of o) (carrier_of (rank j) es)) where
    fits_here : RowsDecideInvariance → IsClosed hs → IsFramed (In hs) → ¬ AllOf (In hs) IsPlain → Each (AreParts n) rows → (a : Table) →
        FitsSet (rank j) (IsSolution (rank j) es rows) (before_of o) a → Fits j (In hs) (before_of o) a
    fits_here law closed framed other parts a fits = record {
      rising = fits.rising;
      of_rank = fits.of_rank;
      well_formed = fits.well_formed;
      gives = λ v is. (decides _).1 (solves _ (fits.gives v is));
      reaches = λ t inv. fits.reaches t (solution t ((decides t).0 inv));
      once = fits.once;
      own = fits.own;
      earlier = fits.earlier;
    }
      where
        found_system : (us : List ℕ) × (places : List ℕ) × IsSystem n (rank j) o es us places
        found_system = system_exists n (rank j) size o es sound

        decides : (t : Tensor) → IsInvariant j (In hs) t ↔ SolvesRows j (carrier_of (rank j) es) (index_list (rank j) found_system.0) t
        decides t =
            law j hs (before_of o) (carrier_of (rank j) es) (index_list (rank j) found_system.0) (orders_are_orders (rank j) o)
            closed framed other reps (are_unknowns found_system.2) t

        solves : (t : Tensor) → IsSolution (rank j) es rows t → SolvesRows j (carrier_of (rank j) es) (index_list (rank j) found_system.0) t
        solves = solution_solves n (rank j) o es (used (rank j)) rows found_system.0 found_system.1 found_system.2 are_words parts

        solution : (t : Tensor) → SolvesRows j (carrier_of (rank j) es) (index_list (rank j) found_system.0) t → IsSolution (rank j) es rows t
        solution = solves_solution n (rank j) o es (used (rank j)) rows found_system.0 found_system.1 found_system.2 are_words parts

    grows_here : IsFramed (In hs) → ¬ AllOf (In hs) IsPlain →
        ((us : List Index) → AreUnknowns (rank j) (before_of o) (carrier_of (rank j) es) us → GrowsFrom [] (lines_at us rows)) → Grows j (In hs) (before_of o)
    grows_here framed other g =
        let s = system_exists n (rank j) size o es sound in
        let us = index_list (rank j) s.0 in
        let are = are_unknowns s.2 in (
          framed,
          other,
          (
            carrier_of (rank j) es,
            us,
            reps,
            are,
            subst (λ ρs. GrowsFrom [] ρs) (word_lines (rank j) (before_at (rank j) o) es us are.of_rank (used (rank j)) rows are_words) (g us are),
          ),
        )

    calm_here : OneElimination → ((us : List Index) → AreUnknowns (rank j) (before_of o) (carrier_of (rank j) es) us → GrowsFrom [] (lines_at us rows) → ⊥) →
        Grows j (In hs) (before_of o) → ⊥
    calm_here law calm (framed, other, (rep, vs, reps', are', grows)) =
        let s = system_exists n (rank j) size o es sound in
        let us = index_list (rank j) s.0 in
        let are = are_unknowns s.2 in
        let same = law j hs (before_of o) (carrier_of (rank j) es) rep us vs (orders_are_orders (rank j) o) reps reps' are are' (used (rank j)) in
        calm us are (subst (λ ρs. GrowsFrom [] ρs) (sym (word_lines (rank j) (before_at (rank j) o) es us are.of_rank (used (rank j)) rows are_words ∙ same.1)) grows)

-- ---- the same where the rank is that of a shape
module _ (hs : List Operation) (n r : ℕ) (o : Ordering) (es : List Entry) (rows : List (List Part)) (s : ShapeValue) (size : n ≡ 3 ^ r) (sound : AreSound n (before_at r o) es)
    (are_words : AreWordRows r (before_at r o) es (used r) rows) (reps : (j : JahnSymbol) → IsShapeOf j r s → AreRepresentatives j (In hs) (before_of o) (carrier_of r es)) where
  pub axis_fits : RowsDecideInvariance → IsGroup hs → IsFramed (In hs) → ¬ AllOf (In hs) IsPlain → Each (AreParts n) rows → (a : Table) → FitsSet r (IsSolution r es rows) (before_of o) a →
      (j : JahnSymbol) → IsShapeOf j r s → Fits j (In hs) (before_of o) a
  axis_fits law group framed other parts a fits j shape =
      let C : ℕ → Type 0 = λ x. n ≡ 3 ^ x → AreSound n (before_at x o) es → AreWordRows x (before_at x o) es (used x) rows → AreRepresentatives j (In hs) (before_of o) (carrier_of x es) →
      FitsSet x (IsSolution x es rows) (before_of o) a → Fits j (In hs) (before_of o) a in
      let base : C (rank j) = λ p q w m f. fits_here hs n o es rows j p q w m law (group_closed hs group) framed other parts a f in
      subst C shape.rank_is base size sound are_words (reps j shape) fits

  pub axis_grows : IsFramed (In hs) → ¬ AllOf (In hs) IsPlain → ((us : List Index) → AreUnknowns r (before_of o) (carrier_of r es) us → GrowsFrom [] (lines_at us rows)) →
      (j : JahnSymbol) → IsShapeOf j r s → Grows j (In hs) (before_of o)
  axis_grows framed other g j shape =
      let C : ℕ → Type 0 = λ x. n ≡ 3 ^ x → AreSound n (before_at x o) es → AreWordRows x (before_at x o) es (used x) rows → AreRepresentatives j (In hs) (before_of o) (carrier_of x es) →
      ((us : List Index) → AreUnknowns x (before_of o) (carrier_of x es) us → GrowsFrom [] (lines_at us rows)) → Grows j (In hs) (before_of o) in
      let base : C (rank j) = λ p q w m f. grows_here hs n o es rows j p q w m framed other f in
      subst C shape.rank_is base size sound are_words (reps j shape) g

  pub axis_calm : OneElimination → ((us : List Index) → AreUnknowns r (before_of o) (carrier_of r es) us → GrowsFrom [] (lines_at us rows) → ⊥) →
      (j : JahnSymbol) → IsShapeOf j r s → Grows j (In hs) (before_of o) → ⊥
  axis_calm law calm j shape =
      let C : ℕ → Type 0 = λ x. n ≡ 3 ^ x → AreSound n (before_at x o) es → AreWordRows x (before_at x o) es (used x) rows → AreRepresentatives j (In hs) (before_of o) (carrier_of x es) →
      ((us : List Index) → AreUnknowns x (before_of o) (carrier_of x es) us → GrowsFrom [] (lines_at us rows) → ⊥) → Grows j (In hs) (before_of o) → ⊥ in
      let base : C (rank j) = λ p q w m f. calm_here hs n o es rows j p q w m law f in
      subst C shape.rank_is base size sound are_words (reps j shape) calm
