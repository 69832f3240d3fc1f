-- The table that kept rows give runs through the component lists that classes and rows leave.
--   told_made, made_ranges, eliminated_fits, err_same    the terms name no later free component
use Rattle.list_laws.proofs.Kit.{◌≡◌, ℕ, ◌^◌, ◌<◌, ◌≤◌, true, false, List, [], ◌∷◌, length, get_or, map, refl, ap, sym, ◌∙◌, subst, arith, inl, inr, cases_lt}
use Rattle.list_laws.proofs.Kit.{lt-ltb, true≢false, get_or-map, ext_get_or, length-map}
use Rattle.std.specs.Prelude.{Err, IfErr, IsErrAnd, IsTrue, None, Ok, Option, Result, Some, slice_get}
use Rattle.constraint_rows.proofs.GatherLaws.{order_total}
use Rattle.list_laws.proofs.Prelude.{option_cases, rising_get, each_map, each_get, each_both}
use Rattle.tensor_defs.specs.declared.Sign.{Sign}
use Rattle.tensor_defs.specs.declared.Sign.TheVariants.{Plus}
use Rattle.tensor_defs.specs.Prelude.{Kept, Each, IsRising, Number, num_zero, AreTerms, IsProper, Table, alone, chosen, places_rise, sum_terms, value_at}
use Rattle.tensor_defs.specs.Prelude.{Index, Tensor, component_number, index_of}
use Rattle.tensor_defs.specs.Table as defs
use Rattle.tensor_laws.proofs.ComponentNumbers.{length-index_of}
use Rattle.sign_moves.specs.declared.classes.Entry.{Entry}
use Rattle.sign_moves.specs.Signs.{signed}
use Rattle.tensor_rank.specs.Prelude.{component_below_at, index_number_at, Ordering, before_at, before_of}
use Rattle.constraint_rows.specs.Prelude.{class_at, IsGiven, IsOwn}
use Rattle.constraint_rows.specs.declared.rows.Part.{Part}
use Rattle.sparse_rows.specs.Prelude.{is_pivot, IsEliminated, kepts, lines, Above, IsRow, IsKeptWithin, IsReduced, Solve, lines_of, AreSolved, sum_entries}
use Rattle.sparse_rows.specs.declared.entry.Entry.{Entry as SparseEntry}
use Rattle.sparse_rows.specs.declared.entry.KeptRow.{KeptRow}
use Rattle.sparse_rows.specs.declared.entry.PivotSum.{PivotSum}
use Rattle.sparse_rows.specs.declared.entry.Row.{Row}
use Rattle.reduced_form.specs.declared.forms.Term.{Term}
use Rattle.reduced_form.specs.Forms.{FormValue, IsForm, form_table, free_at, row_at, term_of}
use Rattle.reduced_form.specs.Eliminated.{AreNumbers, ArePivots, AreSparse, AreTold, IsSystem, IsToldForm, class_row, entries_at, entry_term, free_places, number_at, pivot_at, teller, terms_told, told_by}
use Rattle.reduced_form.specs.Solving.{FitsSet, IsSolution, lines_at}
use Rattle.reduced_form.proofs.FormLaws.{get_told, unit_proper, unit_value}
use Rattle.reduced_form.proofs.Numbering.{free_place, length-kepts, number_few, number_less, number_rises, place_numbered}
use Rattle.reduced_form.proofs.Sums.{IsSumAt, told_ranges, entries_value, entry_proper, is_pivot_at, pivot_within, pivots_apart, solved_sums, sum_at, sums_agree, sums_solved, told_value}
use Rattle.reduced_form.proofs.Systems.{in_n, kept_within, index_list, lines_same, number_is, parts_of, place_unknown, placed_first, solve_sums, sums_solve, unknown_below, unknown_own}

-- what holds by number holds of each index
by_number : (r : ℕ) (P : Index → Type 0) → ((c : ℕ) → c < 3 ^ r → P (index_of r c)) → (is : Index) → length is ≡ r → P is
by_number r P h is l = subst P (index_number_at r is l) (h (component_number is) (component_below_at r is l))

module _ {n r : ℕ} {o : Ordering} {es : List Entry} {us places : List ℕ} (sys : IsSystem n r o es us places) {κs : List Kept} {f : FormValue}
    (form : IsToldForm n es us places κs f) (reduced : IsReduced κs) (within : Each (IsKeptWithin (length us)) κs) where
  abbrev place : ℕ → ℕ
  place c = get_or places c 0

  abbrev num : ℕ → ℕ
  num k = get_or form.numbers k 0

  teller_row : (i : ℕ) → i < length κs → teller form.at (pivot_at κs i) ≡ Some i
  teller_row i h =
      let q = form.pivots.all i h in
      let p = form.pivots.pivot (pivot_at κs i) q.0 q.1 in
      q.1 ∙ ap Some (pivots_apart κs reduced.leading reduced.apart q.0 i p.0 h p.1)

  free_untold : (u : ℕ) → is_pivot κs u ≡ false → teller form.at u ≡ None
  free_untold u h = elim (option_cases (teller form.at u)) [
    | inl e ↦ e
    | inr e ↦
        let p = form.pivots.pivot u e.0 e.1 in
        absurd (true≢false (sym (ap (is_pivot κs) (sym p.1) ∙ is_pivot_at κs e.0 p.0) ∙ h))
  ]

  pub record IsFreeUnknown (k : ℕ) : Type 0 where
    pub below : k < length us
    pub untold : teller form.at k ≡ None

  -- the sum of a pivot
  record IsPivotOf (k i : ℕ) : Type 0 where
    pub inside : i < length κs
    pub own : pivot_at κs i ≡ k
    pub below : k < length us
    pub sum : IsSumAt κs k (entries_at form.sums i)
    pub free : Each (λ e. IsFreeUnknown e.unknown) (entries_at form.sums i)

  pivot_of : (k i : ℕ) → teller form.at k ≡ Some i → IsPivotOf k i
  pivot_of k i e =
      let p = form.pivots.pivot k i e in
      let b : k < length us = subst (λ m. m < length us) p.1 (pivot_within (length us) κs within i p.0) in
      let s : IsSumAt κs k (entries_at form.sums i) = subst (λ m. IsSumAt κs m (entries_at form.sums i)) p.1 (sum_at κs κs form.sums form.solved i p.0) in
      record {
        inside = p.0;
        own = p.1;
        below = b;
        sum = s;
        free = each_both (λ x. x.unknown < k) (λ x. is_pivot κs x.unknown ≡ false) (λ x. IsFreeUnknown x.unknown)
            (λ x l z. record { below = omega (arith, l, b); untold = free_untold x.unknown z }) (entries_at form.sums i) s.before s.free;
      }

  num_is : (k : ℕ) → k < length us → num k ≡ number_at form.at k
  num_is k h = form.are_numbers.number k h

  long_free : length f.free ≡ length (free_places form.at (length us))
  long_free = ap (λ xs. length xs) form.free ∙ length-map (free_places form.at (length us)) (free_at us)

  num_within : (k : ℕ) → IsFreeUnknown k → num k < length f.free
  num_within k h =
      let e = num_is k h.below in
      let l = number_less form.at k (length us) h.below h.untold in
      let m = long_free in
      omega (arith, e, l, m)

  free_named : (k : ℕ) → IsFreeUnknown k → free_at f.free (num k) ≡ free_at us k
  free_named k h =
      let l = number_less form.at k (length us) h.below h.untold in
      ap (free_at f.free) (num_is k h.below) ∙ ap (λ xs. free_at xs (number_at form.at k)) form.free
      ∙ get_or-map (free_at us) (free_places form.at (length us)) (number_at form.at k) 0 0 l
      ∙ ap (free_at us) (place_numbered form.at (length us) k h.below h.untold)

  record IsNumbered (i k : ℕ) : Type 0 where
    pub unknown : IsFreeUnknown k
    pub number : number_at form.at k ≡ i
    pub is : free_at f.free i ≡ free_at us k

  numbered_at : (i : ℕ) → i < length f.free → (k : ℕ) × IsNumbered i k
  numbered_at i h =
      let p = free_place form.at (length us) i (subst (λ m. i < m) long_free h) in (
        p.place,
        record {
          unknown = record { below = p.below; untold = p.untold };
          number = p.number;
          is = ap (λ xs. free_at xs i) form.free ∙ get_or-map (free_at us) (free_places form.at (length us)) i 0 0 (subst (λ m. i < m) long_free h) ∙ ap (free_at us) p.is;
        },
      )

  num_of : (i k : ℕ) → IsNumbered i k → num k ≡ i
  num_of i k h = num_is k h.unknown.below ∙ h.number

  -- ---- values
  abbrev pub the_table : Table
  the_table = form_table r f

  abbrev value : List Number → ℕ → Number
  value v c = value_at the_table v (index_of r c)

  -- the value of an unknown
  abbrev unk : List Number → ℕ → Number
  unk v k = sum_terms (map term_of (terms_told form.at form.numbers form.sums k Plus)) (chosen v)

  terms_at : (c : ℕ) → c < n → the_table.terms (index_of r c) ≡ map term_of (class_row form.at form.numbers form.sums places (class_at es c))
  terms_at c h = ap (λ d. map term_of (row_at f.rows d)) (number_is sys c h) ∙ ap (map term_of) (form.rows c h)

  terms_none : (c : ℕ) → c < n → class_at es c ≡ None → the_table.terms (index_of r c) ≡ []
  terms_none c h e = terms_at c h ∙ ap (λ x. map term_of (class_row form.at form.numbers form.sums places x)) e

  terms_some : (c d : ℕ) (s : Sign) → c < n → class_at es c ≡ Some (d, s) → the_table.terms (index_of r c) ≡ map term_of (terms_told form.at form.numbers form.sums (place d) s)
  terms_some c d s h e = terms_at c h ∙ ap (λ x. map term_of (class_row form.at form.numbers form.sums places x)) e

  terms_unknown : (k : ℕ) → k < length us → the_table.terms (index_of r (free_at us k)) ≡ map term_of (terms_told form.at form.numbers form.sums k Plus)
  terms_unknown k h =
      terms_some (free_at us k) (free_at us k) Plus (unknown_below sys k h) (unknown_own sys k h)
      ∙ ap (λ x. map term_of (terms_told form.at form.numbers form.sums x Plus)) (place_unknown sys k h)

  value_none : (v : List Number) (c : ℕ) → c < n → class_at es c ≡ None → value v c ≡ num_zero
  value_none v c h e = ap (λ ts. sum_terms ts (chosen v)) (terms_none c h e)

  value_some : (v : List Number) (c d : ℕ) (s : Sign) → c < n → class_at es c ≡ Some (d, s) → value v c ≡ signed s (unk v (place d))
  value_some v c d s h e =
      ap (λ ts. sum_terms ts (chosen v)) (terms_some c d s h e)
      ∙ told_value form.numbers form.sums (place d) s (teller form.at (place d)) (chosen v) (λ i q. (pivot_of (place d) i q).sum.row)

  value_unknown : (v : List Number) (k : ℕ) → k < length us → value v (free_at us k) ≡ unk v k
  value_unknown v k h = ap (λ ts. sum_terms ts (chosen v)) (terms_unknown k h)

  unk_free : (v : List Number) (k : ℕ) → teller form.at k ≡ None → unk v k ≡ chosen v (num k)
  unk_free v k e =
      ap (λ x. sum_terms (map term_of (told_by form.numbers form.sums k Plus x)) (chosen v)) e ∙ unit_value (num k) Plus (chosen v)

  unk_pivot : (v : List Number) (k i : ℕ) → teller form.at k ≡ Some i → unk v k ≡ sum_entries (entries_at form.sums i) (λ u. chosen v (num u))
  unk_pivot v k i e =
      ap (λ x. sum_terms (map term_of (told_by form.numbers form.sums k Plus x)) (chosen v)) e
      ∙ entries_value form.numbers Plus (entries_at form.sums i) (pivot_of k i e).sum.row (chosen v)

  unk_solve : (v : List Number) → Solve (length us) (unk v) (lines_of κs)
  unk_solve v = sums_solved (length us) κs κs form.sums (unk v) form.solved within (λ i h.
      let e = teller_row i h in
      unk_pivot v (pivot_at κs i) i e
      ∙ sums_agree (entries_at form.sums i) (λ u. chosen v (num u)) (unk v)
      (each_map (λ x. IsFreeUnknown x.unknown) (λ x. chosen v (num x.unknown) ≡ unk v x.unknown) (λ x q. sym (unk_free v x.unknown q.untold)) (entries_at form.sums i) (pivot_of (pivot_at κs i) i e).free))

  -- ---- the choice that a solution comes from
  abbrev choice : Tensor → List Number
  choice t = map (λ c. t (index_of r c)) f.free

  choice_at : (t : Tensor) (k : ℕ) → IsFreeUnknown k → chosen (choice t) (num k) ≡ t (index_of r (free_at us k))
  choice_at t k h = get_or-map (λ c. t (index_of r c)) f.free (num k) 0 num_zero (num_within k h) ∙ ap (λ c. t (index_of r c)) (free_named k h)

  unk_choice : (t : Tensor) → Solve (length us) (λ k. t (index_of r (free_at us k))) (lines_of κs) → (k : ℕ) → k < length us → unk (choice t) k ≡ t (index_of r (free_at us k))
  unk_choice t s k h = elim (option_cases (teller form.at k)) [
    | inl e ↦ unk_free (choice t) k e ∙ choice_at t k (record { below = h; untold = e })
    | inr e ↦
        let i = e.0 in
        let p = pivot_of k i e.1 in
        let u : ℕ → Number = λ m. t (index_of r (free_at us m)) in
        unk_pivot (choice t) k i e.1
        ∙ sums_agree (entries_at form.sums i) (λ m. chosen (choice t) (num m)) u
        (each_map (λ x. IsFreeUnknown x.unknown) (λ x. chosen (choice t) (num x.unknown) ≡ u x.unknown) (λ x q. choice_at t x.unknown q) (entries_at form.sums i) p.free)
        ∙ sym (solved_sums (length us) κs κs form.sums u form.solved within s i p.inside) ∙ ap u p.own
  ]

  -- ---- the terms are well formed
  abbrev IsFine : List defs.Term → Type 0
  IsFine ts = AreTerms ts × Each (λ t. t.place < length the_table.free) ts

  num_less : (k m : ℕ) → IsFreeUnknown k → IsFreeUnknown m → k < m → num k < num m
  num_less k m p q l =
      let a = num_is k p.below in
      let b = num_is m q.below in
      let c = number_less form.at k m l p.untold in
      omega (arith, a, b, c)

  entries_rise : (s : Sign) (xs : List SparseEntry) → IsRow xs → Each (λ e. IsFreeUnknown e.unknown) xs → IsRising places_rise (map term_of (map (entry_term form.numbers s) xs))
  entries_rise s [] row free = tt
  entries_rise s (x ∷ xs) row free = (later xs row.0 free.1, entries_rise s xs row.2 free.1)
    where
      later : (ys : List SparseEntry) → Above x.unknown ys → Each (λ e. IsFreeUnknown e.unknown) ys → Each (λ t. IsTrue (places_rise (term_of (entry_term form.numbers s x)) t)) (map term_of (map (entry_term form.numbers s) ys))
      later [] a g = tt
      later (y ∷ ys) a g = (lt-ltb (num x.unknown) (num y.unknown) (num_less x.unknown y.unknown free.0 g.0 a.0), later ys a.1 g.1)

  entries_proper : (s : Sign) (xs : List SparseEntry) → IsRow xs → Each IsProper (map term_of (map (entry_term form.numbers s) xs))
  entries_proper s [] row = tt
  entries_proper s (x ∷ xs) row = (entry_proper form.numbers s x row.1, entries_proper s xs row.2)

  long_table : length the_table.free ≡ length f.free
  long_table = length-map f.free (index_of r)

  entries_name : (s : Sign) (xs : List SparseEntry) → Each (λ e. IsFreeUnknown e.unknown) xs → Each (λ t. t.place < length the_table.free) (map term_of (map (entry_term form.numbers s) xs))
  entries_name s [] free = tt
  entries_name s (x ∷ xs) free =
      (subst (λ m. num x.unknown < m) (sym long_table) (num_within x.unknown free.0), entries_name s xs free.1)

  told_fine : (k : ℕ) (s : Sign) → k < length us → IsFine (map term_of (terms_told form.at form.numbers form.sums k s))
  told_fine k s h = elim (option_cases (teller form.at k)) [
    | inl e ↦
        subst (λ x. IsFine (map term_of (told_by form.numbers form.sums k s x))) (sym e)
        (((tt, tt), (unit_proper (num k) s, tt)), (subst (λ m. num k < m) (sym long_table) (num_within k (record { below = h; untold = e })), tt))
    | inr e ↦
        let p = pivot_of k e.0 e.1 in
        let xs = entries_at form.sums e.0 in
        subst (λ x. IsFine (map term_of (told_by form.numbers form.sums k s x))) (sym e.1)
        ((entries_rise s xs p.sum.row p.free, entries_proper s xs p.sum.row), entries_name s xs p.free)
  ]

  row_fine : (c : ℕ) → c < n → IsFine (the_table.terms (index_of r c))
  row_fine c h = elim (option_cases (class_at es c)) [
    | inl e ↦ subst IsFine (sym (terms_none c h e)) ((tt, tt), tt)
    | inr e ↦
        let d = e.0.0 in
        let s = e.0.1 in
        subst IsFine (sym (terms_some c d s h e.1)) (told_fine (place d) s (placed_first sys c d s h e.1).within)
  ]

  -- a row for each component, and terms that name free components
  unmapped : (m : ℕ) (ts : List Term) → Each (λ t. t.place < m) (map term_of ts) → Each (λ t. t.free < m) ts
  unmapped m [] h = tt
  unmapped m (t ∷ ts) h = (h.0, unmapped m ts h.1)

  pub told_whole : length f.rows ≡ n → IsForm n f
  told_whole len = record {
    len = len;
    below = λ k h. let p = numbered_at k h in subst (λ x. x < n) (sym p.1.is) (unknown_below sys p.0 p.1.unknown.below);
    few =
        let a = long_free in
        let b = number_few form.at (length us) in
        let c = sys.unknowns.few in
        omega (arith, a, b, c);
    named = λ c h.
        unmapped (length f.free) (row_at f.rows c)
        (subst (λ d. Each (λ t. t.place < length f.free) (map term_of (row_at f.rows d))) (number_is sys c h)
        (subst (λ m. Each (λ t. t.place < m) (the_table.terms (index_of r c))) long_table (row_fine c h).1));
  }

  -- ---- the terms name no later free component
  free_index : (i : ℕ) (d : Index) → i < length f.free → slice_get the_table.free i ≡ Some d → d ≡ index_of r (free_at f.free i)
  free_index i d h e = sym (get_told [] d the_table.free i e).1 ∙ get_or-map (index_of r) f.free i 0 [] h

  free_is : (k : ℕ) (d : Index) → IsFreeUnknown k → slice_get the_table.free (num k) ≡ Some d → d ≡ index_of r (free_at us k)
  free_is k d h e = free_index (num k) d (num_within k h) e ∙ ap (index_of r) (free_named k h)

  not_earlier : (c d : ℕ) (s : Sign) → c < n → class_at es c ≡ Some (d, s) → (k : ℕ) → IsFreeUnknown k → k ≤ place d → (x : Index) → slice_get the_table.free (num k) ≡ Some x → IsTrue (before_of o (index_of r c) x) → ⊥
  not_earlier c d s h e k free le x told b =
      let total = order_total n r sys.size o in
      let at_d = placed_first sys c d s h e in
      let not_less : before_at r o c d ≡ false = sys.sound.first c d s h e in
      let less : before_at r o c (free_at us k) ≡ true = ap (before_of o (index_of r c)) (sym (free_is k x free told)) ∙ b in
      elim (cases_lt k (place d)) as (λ _. ⊥) [
        | inl l ↦
            true≢false (sym (total.transitive c (free_at us k) d less (ap (before_at r o (free_at us k)) (sym at_d.back) ∙ sys.unknowns.rising k (place d) l at_d.within)) ∙ not_less)
        | inr l ↦
            let same : k ≡ place d = omega (arith, l, le) in
            true≢false (sym (ap (before_at r o c) (sym at_d.back ∙ ap (free_at us) (sym same)) ∙ less) ∙ not_less)
      ]

  row_earlier : (x : Index) (c : ℕ) → c < n → Each (λ t. slice_get the_table.free t.place ≡ Some x → ¬ IsTrue (before_of o (index_of r c) x)) (the_table.terms (index_of r c))
  row_earlier x c h = elim (option_cases (class_at es c)) as (λ _. Q (the_table.terms (index_of r c))) [
    | inl e ↦ subst Q (sym (terms_none c h e)) tt
    | inr e ↦
        let d = e.0.0 in
        let s = e.0.1 in
        let k = place d in
        let b = (placed_first sys c d s h e.1).within in
        subst Q (sym (terms_some c d s h e.1)) (elim (option_cases (teller form.at k)) as (λ _. Q (map term_of (terms_told form.at form.numbers form.sums k s))) [
          | inl z ↦
              subst (λ y. Q (map term_of (told_by form.numbers form.sums k s y))) (sym z)
              ((λ told less. not_earlier c d s h e.1 k (record { below = b; untold = z }) (omega arith) x told less), tt)
          | inr z ↦
              let p = pivot_of k z.0 z.1 in
              subst (λ y. Q (map term_of (told_by form.numbers form.sums k s y))) (sym z.1) (entries c d s h e.1 (entries_at form.sums z.0) p.free p.sum.before)
        ])
  ]
    where
      Q : List defs.Term → Type 0
      Q ts = Each (λ t. slice_get the_table.free t.place ≡ Some x → ¬ IsTrue (before_of o (index_of r c) x)) ts

      entries : (c d : ℕ) (s : Sign) → c < n → class_at es c ≡ Some (d, s) → (xs : List SparseEntry) → Each (λ e. IsFreeUnknown e.unknown) xs → Each (λ e. e.unknown < place d) xs →
          Each (λ t. slice_get the_table.free t.place ≡ Some x → ¬ IsTrue (before_of o (index_of r c) x)) (map term_of (map (entry_term form.numbers s) xs))
      entries c d s h e [] free before = tt
      entries c d s h e (y ∷ ys) free before =
          let l = before.0 in
          ((λ told less. not_earlier c d s h e y.unknown free.0 (omega (arith, l)) x told less), entries c d s h e ys free.1 before.1)

  module _ (rows : List (List Part)) (rs : List Row) (given : Each (IsGiven (before_at r o) es) rows) (sparse : AreSparse n places rows rs) (elim_ : IsEliminated (lines rs) κs) where
    abbrev owns : Each (λ ps. Each (λ p. IsOwn es p.component) ps) rows
    owns = each_map (IsGiven (before_at r o) es) (λ ps. Each (λ p. IsOwn es p.component) ps) (λ ps g. g.own) rows given

    to_kept : (t : ℕ → Number) → Solve (length us) t (lines_at (index_list r us) rows) → Solve (length us) t (lines_of κs)
    to_kept t s = (elim_.same.both (length us) t).0 (subst (Solve (length us) t) (sym (lines_same sys rows rs given sparse)) s)

    from_kept : (t : ℕ → Number) → Solve (length us) t (lines_of κs) → Solve (length us) t (lines_at (index_list r us) rows)
    from_kept t s = subst (Solve (length us) t) (lines_same sys rows rs given sparse) ((elim_.same.both (length us) t).1 s)

    pub told_fits : FitsSet r (IsSolution r es rows) (before_of o) (form_table r f)
    told_fits = record {
      rising = rising_get (before_of o) [] the_table.free (λ i k l m.
          let n1 : k < length f.free = subst (λ x. k < x) long_table m in
          let n0 : i < length f.free = omega (arith, l, n1) in
          let p = numbered_at i n0 in
          let q = numbered_at k n1 in
          let rise : p.0 < q.0 = elim (cases_lt p.0 q.0) as (λ _. p.0 < q.0) [
            | inl w ↦ w
            | inr w ↦
                let back = number_rises form.at q.0 p.0 w in
                let a = p.1.number in
                let b = q.1.number in
                absurd (omega (arith, back, a, b, l))
          ] in
          (λ z. before_of o (get_or-map (index_of r) f.free i 0 [] n0 z) (get_or-map (index_of r) f.free k 0 [] n1 z))
          ∙ (λ z. before_at r o (p.1.is z) (q.1.is z)) ∙ sys.unknowns.rising p.0 q.0 rise q.1.unknown.below);
      of_rank = each_get (λ c. length c ≡ r) [] the_table.free (λ k l.
          ap (λ x. length x) (get_or-map (index_of r) f.free k 0 [] (subst (λ x. k < x) long_table l)) ∙ length-index_of r (free_at f.free k));
      well_formed = by_number r (λ is. IsFine (the_table.terms is)) (λ c h. row_fine c (in_n sys c h));
      gives = λ v is. record {
        none = λ c h e. value_none v c (in_n sys c h) e;
        some = λ c d s h e.
            let m = in_n sys c h in
            let p = placed_first sys c d s m e in
            value_some v c d s m e ∙ ap (signed s) (sym (value_unknown v (place d) p.within) ∙ ap (value v) p.back);
        sums = solve_sums sys (value_at the_table v) (unk v) (λ k h. sym (value_unknown v k h)) rows (parts_of sys rows rs sparse) owns (from_kept (unk v) (unk_solve v));
      };
      reaches = λ t sol.
          let s : Solve (length us) (λ k. t (index_of r (free_at us k))) (lines_of κs) =
          to_kept (λ k. t (index_of r (free_at us k))) (sums_solve sys t (λ k. t (index_of r (free_at us k))) (λ k h. refl) rows (parts_of sys rows rs sparse) owns sol.sums) in (
            choice t,
            length-map f.free (λ c. t (index_of r c)) ∙ sym long_table,
            by_number r (λ is. value_at the_table (choice t) is ≡ t is) (λ c h.
                let m = in_n sys c h in
                elim (option_cases (class_at es c)) [
                  | inl e ↦ value_none (choice t) c m e ∙ sym (sol.none c h e)
                  | inr e ↦
                      let d = e.0.0 in
                      let g = e.0.1 in
                      let p = placed_first sys c d g m e.1 in
                      value_some (choice t) c d g m e.1
                      ∙ ap (signed g) (unk_choice t s (place d) p.within ∙ ap (λ x. t (index_of r x)) p.back) ∙ sym (sol.some c d g h e.1)
                ]),
          );
      once = λ v w p q e. ext_get_or num_zero v w (p ∙ sym q) (λ i l.
          let m : i < length f.free = subst (λ x. i < x) (p ∙ long_table) l in
          let k = numbered_at i m in
          let number : num k.0 ≡ i = num_of i k.0 k.1 in
          ap (chosen v) (sym number) ∙ sym (unk_free v k.0 k.1.unknown.untold) ∙ sym (value_unknown v k.0 k.1.unknown.below)
          ∙ e (index_of r (free_at us k.0)) (length-index_of r (free_at us k.0))
          ∙ value_unknown w k.0 k.1.unknown.below ∙ unk_free w k.0 k.1.unknown.untold ∙ ap (chosen w) number);
      own = λ i c e.
          let told = get_told [] c the_table.free i e in
          let m : i < length f.free = subst (λ x. i < x) long_table told.0 in
          let k = numbered_at i m in
          ap the_table.terms (free_index i c m e ∙ ap (index_of r) k.1.is) ∙ terms_unknown k.0 k.1.unknown.below
          ∙ ap (λ x. map term_of (told_by form.numbers form.sums k.0 Plus x)) k.1.unknown.untold
          ∙ ap (λ x. alone x ∷ []) (num_of i k.0 k.1);
      earlier = λ is d l. by_number r (λ x. Each (λ t. slice_get the_table.free t.place ≡ Some d → ¬ IsTrue (before_of o x d)) (the_table.terms x)) (λ c h. row_earlier d c (in_n sys c h)) is l;
    }

-- the table made of its parts
pub told_made : {n : ℕ} {es : List Entry} {us places : List ℕ} (ks : List KeptRow) (at at' : List (Option ℕ)) (numbers : List ℕ) (ss : List PivotSum) (free : List ℕ) (rows : List (List Term)) → at' ≡ at →
    ArePivots (length us) (kepts ks) at (length ks) → AreNumbers at' (length us) numbers → AreSolved (kepts ks) (kepts ks) ss → free ≡ map (free_at us) (free_places at' (length us)) →
    ((c : ℕ) → c < n → row_at rows c ≡ class_row at numbers ss places (class_at es c)) → IsToldForm n es us places (kepts ks) (record { free = free; rows = rows })
told_made {n} {es} {us} {places} ks at at' numbers ss free rows same pivots are_numbers solved is each = record {
  at = at;
  numbers = numbers;
  sums = ss;
  pivots = subst (ArePivots (length us) (kepts ks) at) (sym (length-kepts ks)) pivots;
  are_numbers = subst (λ x. AreNumbers x (length us) numbers) same are_numbers;
  solved = solved;
  free = is ∙ ap (λ x. map (free_at us) (free_places x (length us))) same;
  rows = each;
}

pub made_ranges : (n : ℕ) (ks : List KeptRow) (at at' : List (Option ℕ)) (numbers : List ℕ) (ss : List PivotSum) → at' ≡ at → ArePivots n (kepts ks) at (length ks) → AreNumbers at' n numbers →
    AreSolved (kepts ks) (kepts ks) ss → Each (IsKeptWithin n) (kepts ks) → AreTold (length at) at numbers ss
made_ranges n ks at at' numbers ss same p m s w =
    told_ranges n (kepts ks) at numbers ss (subst (ArePivots n (kepts ks) at) (sym (length-kepts ks)) p) (subst (λ x. AreNumbers x n numbers) same m) s w

-- the same with lists that are lent
pub eliminated_fits : {n r : ℕ} {o : Ordering} {es : List Entry} {us places : List ℕ} (sys : IsSystem n r o es us places) (us' places' : List ℕ) (rows : List (List Part)) (rs rs' : List Row) (ks ks' : List KeptRow) (f : FormValue) →
    us' ≡ us → places' ≡ places → rs' ≡ rs → ks' ≡ ks → Each (IsGiven (before_at r o) es) rows → AreSparse n places rows rs → IsEliminated (lines rs') (kepts ks) → IsToldForm n es us' places' (kepts ks') f →
    FitsSet r (IsSolution r es rows) (before_of o) (form_table r f)
eliminated_fits {n} {r} {o} {es} {us} {places} sys us' places' rows rs rs' ks ks' f a b d e given sparse elim_ form =
    let done : IsEliminated (lines rs) (kepts ks) = subst (λ x. IsEliminated (lines x) (kepts ks)) d elim_ in
    let f1 : IsToldForm n es us places' (kepts ks') f = subst (λ x. IsToldForm n es x places' (kepts ks') f) a form in
    let f2 : IsToldForm n es us places (kepts ks') f = subst (λ x. IsToldForm n es us x (kepts ks') f) b f1 in
    let f3 : IsToldForm n es us places (kepts ks) f = subst (λ x. IsToldForm n es us places (kepts x) f) e f2 in
    told_fits sys f3 done.is_reduced (kept_within sys rows rs (kepts ks) given sparse done) rows rs given sparse done

pub err_same : {X E : Type 0} (r : Result X E) (f : E) (Q : E → Type 0) → IsErrAnd r (λ e. e ≡ f) → Q f → IfErr r Q
err_same (Ok x) f Q h q = tt
err_same (Err e) f Q h q = subst Q (sym h) q
