-- The unknowns of an elimination, and its rows by their places.
--   entry_of, entries_of    rows of whole numbers as rows of fractions
--   system_made, index_list, small, in_n, number_is, IsPlaced    the unknowns, by their places
--   sparse_more    growth
use Rattle.std.proofs.Common.{[], ◌≡◌, ◌≢◌, ℕ, zero, suc, ◌+◌, ◌^◌, ◌<◌, ◌≤◌, true, List, ◌∷◌, ◌++◌, cond, take, add-one, length, get_or, map, refl, ap, sym, ◌∙◌, subst, arith, inl, inr, nat_eq}
use Rattle.std.specs.Prelude.{Some, Contains, IsTrue, unsigned_abs}
use Rattle.std.proofs.lemmas.Bool.{cases_lt, cases_eq, eq-eqb, ne_eqb, lt-ltb, le-ltb}
use Rattle.std.proofs.lemmas.List.{get_or-map, length-map}
use Rattle.std.proofs.lemmas.Option.{none-some, same_Some}
use Rattle.constraint_rows.proofs.GatherLaws.{order_total}
use Rattle.list_laws.proofs.Prelude.{option_cases, rising_get, rising_same, each_get}
use Rattle.number_laws.proofs.Fractions.{over-whole}
use Rattle.tensor_defs.specs.declared.Sign.{Sign}
use Rattle.tensor_defs.specs.declared.Sign.TheVariants.{Plus}
use Rattle.tensor_defs.specs.Prelude.{AreUnknowns, GrowsFrom, Kept, Each, IsRising, Number, add, mul, num_one, num_zero, whole, limit, Index, Tensor}
use Rattle.tensor_defs.specs.Prelude.{component_number, index_of}
use Rattle.tensor_laws.proofs.ComponentNumbers.{length-index_of, number-index_of}
use Rattle.sign_moves.specs.declared.classes.Entry.{Entry}
use Rattle.sign_moves.specs.Prelude.{first_at, sign_at, signed}
use Rattle.tensor_rank.specs.Prelude.{component_below_at, Ordering, before_at, before_of, orders_are_orders}
use Rattle.constraint_rows.specs.Prelude.{class_at, AreParts, AreSound, IsGiven, IsOwn, carried_to, carrier_of, part_at, parts_rise, row_sum}
use Rattle.constraint_rows.specs.WordRows as word
use Rattle.constraint_rows.specs.declared.rows.Part.{Part}
use Rattle.sparse_rows.specs.Prelude.{AreGivenRows, IsEliminated, lines, coeff, part, IsKeptWithin, IsWithin, Solve, dot, sum_entries, AreWhole, whole_line}
use Rattle.sparse_rows.specs.Prelude.{whole_part}
use Rattle.sparse_rows.specs.declared.entry.Entry.{Entry as SparseEntry}
use Rattle.sparse_rows.specs.declared.entry.Row.{Row}
use Rattle.sparse_rows.proofs.Merging.{coeff-below, part-other, part-own}
use Rattle.sparse_rows.proofs.PivotSums.{dot-entries}
use Rattle.reduced_form.specs.Prelude.{ArePlaces, IsFreeUpTo, free_at, AreSparse, CanPlace, IsSparse, IsSystem, whole_of, wholes, line_at, lines_at}
use Rattle.axis_laws.proofs.OneCarrier.{same_members}
use Rattle.reduced_form.proofs.FreeLaws.{class_open, class_some}

-- ---- rows of whole numbers as rows of fractions
abbrev pub entry_of : List ℕ → Part → SparseEntry
entry_of places p = record { unknown = get_or places p.component 0; value = record { num = p.number; den = 1 } }

abbrev pub entries_of : List ℕ → List Part → List SparseEntry
entries_of places ps = map (entry_of places) ps

whole_part_is : (places : List ℕ) (p : Part) (u : ℕ) → whole_part (whole_of places p) u ≡ part (entry_of places p) u
unfolding whole_part part
whole_part_is places p u = ap (λ y. cond (nat_eq u (get_or places p.component 0)) y num_zero) (sym (over-whole p.number))

whole_line_is : (places : List ℕ) (ps : List Part) (u : ℕ) → whole_line (wholes places ps) u ≡ coeff (entries_of places ps) u
whole_line_is places [] u = refl
whole_line_is places (p ∷ ps) u = λ i. add (whole_part_is places p u i) (whole_line_is places ps u i)

part_own : (p : Part) (c : ℕ) → c ≡ p.component → part_at p c ≡ whole p.number
unfolding part_at
part_own p c e = ap (λ b. cond b (whole p.number) num_zero) (eq-eqb c p.component e)

part_other : (p : Part) (c : ℕ) → c ≢ p.component → part_at p c ≡ num_zero
unfolding part_at
part_other p c e = ap (λ b. cond b (whole p.number) num_zero) (ne_eqb c p.component e)

-- ---- the unknowns, by their places
pub system_made : {n r : ℕ} {o : Ordering} {es : List Entry} {us us' places : List ℕ} → n ≡ 3 ^ r → AreSound n (before_at r o) es → IsFreeUpTo n (before_at r o) es us n → us' ≡ us → ArePlaces n us' places (length us') → IsSystem n r o es us places
system_made {n} {r} {o} {es} {us} {us'} {places} size sound unknowns same placed = record {
  size = size;
  sound = sound;
  unknowns = unknowns;
  placed = subst (λ xs. ArePlaces n xs places (length xs)) same placed;
}

abbrev pub index_list : ℕ → List ℕ → List Index
index_list r us = map (index_of r) us

module _ {n r : ℕ} {o : Ordering} {es : List Entry} {us places : List ℕ} (sys : IsSystem n r o es us places) where
  abbrev place : ℕ → ℕ
  place c = get_or places c 0

  pub small : (c : ℕ) → c < n → c < 3 ^ r
  small c h = subst (λ (m : ℕ). c < m) sys.size h

  pub in_n : (c : ℕ) → c < 3 ^ r → c < n
  in_n c h = subst (λ (m : ℕ). c < m) (sym sys.size) h

  pub number_is : (c : ℕ) → c < n → component_number (index_of r c) ≡ c
  number_is c h = number-index_of r c (small c h)

  pub record IsPlaced (c : ℕ) : Type 0 where
    pub within : place c < length us
    pub back : free_at us (place c) ≡ c

  pub placed_own : (c : ℕ) → c < n → IsOwn es c → IsPlaced c
  placed_own c h own =
      let t = class_some es c (c, Plus) own in
      let k = sys.unknowns.all c h t.0 t.1 in
      let is : place c ≡ k.0 = ap place (sym k.2) ∙ sys.placed.place k.0 k.1 in
      record {
        within = subst (λ (m : ℕ). m < length us) (sym is) k.1;
        back = ap (free_at us) is ∙ k.2;
      }

  pub unknown_below : (k : ℕ) → k < length us → free_at us k < n
  unknown_below k h = sys.unknowns.below k h

  pub unknown_own : (k : ℕ) → k < length us → IsOwn es (free_at us k)
  unknown_own k h =
      let c = free_at us k in
      let open_c : class_at es c ≡ Some (first_at es c, sign_at es c) = class_open es c (sys.unknowns.opened k h) in
      let self : class_at es c ≡ Some (c, sign_at es c) = open_c ∙ ap (λ d. Some (d, sign_at es c)) (sys.unknowns.first k h) in
      sys.sound.own c c (sign_at es c) (sys.unknowns.below k h) self

  pub place_unknown : (k : ℕ) → k < length us → place (free_at us k) ≡ k
  place_unknown k h = sys.placed.place k h

  pub placed_first : (c d : ℕ) (s : Sign) → c < n → class_at es c ≡ Some (d, s) → IsPlaced d
  placed_first c d s h e = placed_own d (sys.sound.below c d s h e) (sys.sound.own c d s h e)

  pub index_at : (k : ℕ) → k < length us → get_or (index_list r us) k [] ≡ index_of r (free_at us k)
  index_at k h = get_or-map (index_of r) us k 0 [] h

  pub long : length (index_list r us) ≡ length us
  long = length-map us (index_of r)

  -- the places of components rise with them
  pub places_rise : (c d : ℕ) → c < n → IsOwn es c → d < n → IsOwn es d → before_at r o c d ≡ true → place c < place d
  places_rise c d h p l q b =
      let total = order_total n r sys.size o in
      let at_c = placed_own c h p in
      let at_d = placed_own d l q in
      elim (cases_lt (place c) (place d)) as (λ _. place c < place d) [
        | inl m ↦ m
        | inr m ↦ elim (cases_eq (place c) (place d)) as (λ _. place c < place d) [
          | inl e ↦
              let same : c ≡ d = sym at_c.back ∙ ap (free_at us) e ∙ at_d.back in
              absurd (total.apart d (subst (λ x. before_at r o x d ≡ true) same b))
          | inr e ↦
              let back : before_at r o d c ≡ true =
              (λ i. before_at r o (sym at_d.back i) (sym at_c.back i)) ∙ sys.unknowns.rising (place d) (place c) (omega (arith, m, e)) at_c.within in
              absurd (total.apart c (total.transitive c d c b back))
        ]
      ]

  -- ---- rows that may be given
  pub given_whole : (ps : List Part) → AreParts n ps → IsRising (parts_rise (before_at r o)) ps → Each (λ p. IsOwn es p.component) ps → Each (λ p. unsigned_abs p.number < limit) ps → AreWhole (wholes places ps)
  given_whole [] a b c d = tt
  given_whole (p ∷ ps) a b c d = (later ps a.1 b.0 c.1, d.0, given_whole ps a.1 b.1 c.1 d.1)
    where
      later : (qs : List Part) → AreParts n qs → Each (λ q. IsTrue (parts_rise (before_at r o) p q)) qs → Each (λ q. IsOwn es q.component) qs → Each (λ f. place p.component < f.unknown) (wholes places qs)
      later [] x y z = tt
      later (q ∷ qs) x y z = (places_rise p.component q.component a.0.0 c.0 x.0.0 z.0 y.0, later qs x.1 y.1 z.1)

  pub rows_place : (rows : List (List Part)) → Each (IsGiven (before_at r o) es) rows → Each (CanPlace n places) rows
  rows_place [] g = tt
  rows_place (ps ∷ rows) g = (λ a. given_whole ps a g.0.rising g.0.own g.0.small, rows_place rows g.1)

  -- the line of a row at an unknown
  line_unknown : (ps : List Part) → AreParts n ps → Each (λ p. IsOwn es p.component) ps → (k : ℕ) → k < length us → coeff (entries_of places ps) k ≡ word.row_at ps (free_at us k)
  line_unknown [] a b k h = refl
  line_unknown (p ∷ ps) a b k h = λ i. add (one i) (line_unknown ps a.1 b.1 k h i)
    where
      one : part (entry_of places p) k ≡ part_at p (free_at us k)
      one =
          let at_p = placed_own p.component a.0.0 b.0 in
          elim (cases_eq k (place p.component)) as (λ _. part (entry_of places p) k ≡ part_at p (free_at us k)) [
            | inl e ↦ part-own (entry_of places p) k e ∙ over-whole p.number ∙ sym (part_own p (free_at us k) (ap (free_at us) e ∙ at_p.back))
            | inr e ↦
                part-other (entry_of places p) k e
                ∙ sym (part_other p (free_at us k) (λ q. e (sym (place_unknown k h) ∙ ap place q)))
          ]

  within_n : (ps : List Part) → AreParts n ps → Each (λ p. IsOwn es p.component) ps → Each (λ e. e.unknown < length us) (entries_of places ps)
  within_n [] a b = tt
  within_n (p ∷ ps) a b = ((placed_own p.component a.0.0 b.0).within, within_n ps a.1 b.1)

  wider : (k : ℕ) (xs : List SparseEntry) → length us ≤ k → Each (λ e. e.unknown < length us) xs → Each (λ e. e.unknown < k) xs
  wider k [] h a = tt
  wider k (x ∷ xs) h a = let b = a.0 in (omega (arith, h, b), wider k xs h a.1)

  line_is : (ps : List Part) → AreParts n ps → Each (λ p. IsOwn es p.component) ps → (k : ℕ) → coeff (entries_of places ps) k ≡ line_at (index_list r us) ps k
  line_is ps a b k = elim (cases_lt k (length us)) as (λ _. coeff (entries_of places ps) k ≡ line_at (index_list r us) ps k) [
    | inl h ↦
        line_unknown ps a b k h
        ∙ ap (word.row_at ps) (sym (number_is (free_at us k) (unknown_below k h)) ∙ ap component_number (sym (index_at k h)))
        ∙ ap (λ t. cond t (word.row_at ps (component_number (get_or (index_list r us) k []))) num_zero) (sym (lt-ltb k (length (index_list r us)) (subst (λ (m : ℕ). k < m) (sym long) h)))
    | inr h ↦
        coeff-below (entries_of places ps) k (wider k (entries_of places ps) h (within_n ps a b))
        ∙ ap (λ t. cond t (word.row_at ps (component_number (get_or (index_list r us) k []))) num_zero) (sym (le-ltb k (length (index_list r us)) (subst (λ (m : ℕ). m ≤ k) (sym long) h)))
  ]

  pub line_within : (ps : List Part) → IsWithin (length us) (line_at (index_list r us) ps)
  line_within ps k h = ap (λ t. cond t (word.row_at ps (component_number (get_or (index_list r us) k []))) num_zero) (le-ltb k (length (index_list r us)) (subst (λ (m : ℕ). m ≤ k) (sym long) h))

  line_path : (ps : List Part) → AreParts n ps → Each (λ p. IsOwn es p.component) ps → coeff (entries_of places ps) ≡ line_at (index_list r us) ps
  line_path ps a b = λ i u. line_is ps a b u i

  sparse_line : (ps : List Part) (row : Row) → IsSparse n places ps row → Each (λ p. IsOwn es p.component) ps → coeff row.entries.items ≡ line_at (index_list r us) ps
  sparse_line ps row s own = s.row.same ∙ (λ i u. whole_line_is places ps u i) ∙ line_path ps s.parts own

  pub lines_same : (rows : List (List Part)) (rs : List Row) → Each (IsGiven (before_at r o) es) rows → AreSparse n places rows rs → lines rs ≡ lines_at (index_list r us) rows
  lines_same [] [] g s = refl
  lines_same [] (x ∷ rs) g s = absurd s
  lines_same (ps ∷ rows) [] g s = absurd s
  lines_same (ps ∷ rows) (x ∷ rs) g s = λ i. sparse_line ps x s.0 g.0.own i ∷ lines_same rows rs g.1 s.1 i

  pub rows_given : (rows : List (List Part)) (rs : List Row) → AreSparse n places rows rs → AreGivenRows rs
  rows_given [] [] s = tt
  rows_given [] (x ∷ rs) s = absurd s
  rows_given (ps ∷ rows) [] s = absurd s
  rows_given (ps ∷ rows) (x ∷ rs) s = (s.0.row.is_row, rows_given rows rs s.1)

  pub lines_within : (rows : List (List Part)) → Each (IsWithin (length us)) (lines_at (index_list r us) rows)
  lines_within [] = tt
  lines_within (ps ∷ rows) = (line_within ps, lines_within rows)

  pub parts_of : (rows : List (List Part)) (rs : List Row) → AreSparse n places rows rs → Each (AreParts n) rows
  parts_of [] [] s = tt
  parts_of [] (x ∷ rs) s = absurd s
  parts_of (ps ∷ rows) [] s = absurd s
  parts_of (ps ∷ rows) (x ∷ rs) s = (s.0.parts, parts_of rows rs s.1)

  -- ---- what a row adds up to
  sum_parts : (t : Tensor) (v : ℕ → Number) → ((k : ℕ) → k < length us → v k ≡ t (index_of r (free_at us k))) → (ps : List Part) → AreParts n ps → Each (λ p. IsOwn es p.component) ps → sum_entries (entries_of places ps) v ≡ row_sum r ps t
  sum_parts t v e [] a b = refl
  sum_parts t v e (p ∷ ps) a b =
      let at_p = placed_own p.component a.0.0 b.0 in
      let value : v (place p.component) ≡ t (index_of r p.component) = e (place p.component) at_p.within ∙ ap (λ c. t (index_of r c)) at_p.back in
      λ i. add (mul (over-whole p.number i) (value i)) (sum_parts t v e ps a.1 b.1 i)

  row_dot : (t : Tensor) (v : ℕ → Number) → ((k : ℕ) → k < length us → v k ≡ t (index_of r (free_at us k))) → (ps : List Part) → AreParts n ps → Each (λ p. IsOwn es p.component) ps → dot (length us) (line_at (index_list r us) ps) v ≡ row_sum r ps t
  row_dot t v e ps a b =
      ap (λ ρ. dot (length us) ρ v) (sym (line_path ps a b)) ∙ dot-entries (length us) (entries_of places ps) v (within_n ps a b) ∙ sum_parts t v e ps a b

  pub solve_sums : (t : Tensor) (v : ℕ → Number) → ((k : ℕ) → k < length us → v k ≡ t (index_of r (free_at us k))) → (rows : List (List Part)) → Each (AreParts n) rows → Each (λ ps. Each (λ p. IsOwn es p.component) ps) rows → Solve (length us) v (lines_at (index_list r us) rows) → Each (λ ps. row_sum r ps t ≡ num_zero) rows
  solve_sums t v e [] a b s = tt
  solve_sums t v e (ps ∷ rows) a b s = (sym (row_dot t v e ps a.0 b.0) ∙ s.0, solve_sums t v e rows a.1 b.1 s.1)

  pub sums_solve : (t : Tensor) (v : ℕ → Number) → ((k : ℕ) → k < length us → v k ≡ t (index_of r (free_at us k))) → (rows : List (List Part)) → Each (AreParts n) rows → Each (λ ps. Each (λ p. IsOwn es p.component) ps) rows → Each (λ ps. row_sum r ps t ≡ num_zero) rows → Solve (length us) v (lines_at (index_list r us) rows)
  sums_solve t v e [] a b s = tt
  sums_solve t v e (ps ∷ rows) a b s = (row_dot t v e ps a.0 b.0 ∙ s.0, sums_solve t v e rows a.1 b.1 s.1)

  -- ---- the unknowns are told by the classes
  pub are_unknowns : AreUnknowns r (before_of o) (carrier_of r es) (index_list r us)
  are_unknowns = record {
    rising = rising_get (before_of o) [] (index_list r us) (λ i k l m.
        let n1 : k < length us = subst (λ x. k < x) long m in
        let n0 : i < length us = omega (arith, l, n1) in
        (λ q. before_of o (index_at i n0 q) (index_at k n1 q)) ∙ sys.unknowns.rising i k l n1);
    of_rank = each_get (λ c. length c ≡ r) [] (index_list r us) (λ k l.
        ap (λ x. length x) (index_at k (subst (λ x. k < x) long l)) ∙ length-index_of r (free_at us k));
    members = λ c l. (held c, holds c l);
  }
    where
      held : (c : Index) → Contains (index_list r us) c → carrier_of r es c ≡ Some (c, num_one)
      held c h =
          let k = h.0 in
          let b : k < length us = subst (λ x. k < x) long h.1 in
          let is : c ≡ index_of r (free_at us k) = sym h.2 ∙ get_or-map (index_of r) us k 0 c b in
          ap (λ m. carried_to r (class_at es m)) (ap component_number is ∙ number_is (free_at us k) (unknown_below k b))
          ∙ ap (carried_to r) (unknown_own k b) ∙ ap (λ d. Some (d, num_one)) (sym is)

      holds : (c : Index) → length c ≡ r → carrier_of r es c ≡ Some (c, num_one) → Contains (index_list r us) c
      holds c l e = elim (option_cases (class_at es (component_number c))) [
        | inl z ↦ absurd (none-some (c, num_one) (sym (ap (carried_to r) z) ∙ e))
        | inr z ↦
            let d = z.0.0 in
            let s = z.0.1 in
            let told = same_Some (index_of r d, signed s num_one) (c, num_one) (sym (ap (carried_to r) z.1) ∙ e) in
            let p = placed_first (component_number c) d s (in_n (component_number c) (component_below_at r c l)) z.1 in (
              place d,
              subst (λ x. place d < x) (sym long) p.within,
              get_or-map (index_of r) us (place d) 0 c p.within ∙ ap (index_of r) p.back ∙ ap (λ x. x.0) told,
            )
      ]

  pub one_unknowns : (vs : List Index) → AreUnknowns r (before_of o) (carrier_of r es) vs → vs ≡ index_list r us
  one_unknowns vs h =
      let rep = carrier_of r es in
      rising_same (before_of o) (orders_are_orders r o).irreflexive (orders_are_orders r o).transitive vs (index_list r us) h.rising are_unknowns.rising
      (same_members r (before_of o) rep rep vs (index_list r us) (λ c l. refl) h are_unknowns)
      (same_members r (before_of o) rep rep (index_list r us) vs (λ c l. refl) are_unknowns h)

  -- ---- growth
  pub grows_told : (rows : List (List Part)) (rs : List Row) → Each (IsGiven (before_at r o) es) rows → AreSparse n places rows rs → GrowsFrom [] (lines rs) →
      (vs : List Index) → AreUnknowns r (before_of o) (carrier_of r es) vs → GrowsFrom [] (lines_at vs rows)
  grows_told rows rs given sparse g vs h =
      subst (λ ρs. GrowsFrom [] ρs) (lines_same rows rs given sparse ∙ ap (λ xs. lines_at xs rows) (sym (one_unknowns vs h))) g

  pub told_grows : (rows : List (List Part)) (rs : List Row) → Each (IsGiven (before_at r o) es) rows → AreSparse n places rows rs →
      (vs : List Index) → AreUnknowns r (before_of o) (carrier_of r es) vs → GrowsFrom [] (lines_at vs rows) → GrowsFrom [] (lines rs)
  told_grows rows rs given sparse vs h g =
      subst (λ ρs. GrowsFrom [] ρs) (ap (λ xs. lines_at xs rows) (one_unknowns vs h) ∙ sym (lines_same rows rs given sparse)) g

  pub kept_within : (rows : List (List Part)) (rs : List Row) (κs : List Kept) → Each (IsGiven (before_at r o) es) rows → AreSparse n places rows rs → IsEliminated (lines rs) κs → Each (IsKeptWithin (length us)) κs
  kept_within rows rs κs given sparse e =
      e.within (length us) (subst (λ ρs. Each (IsWithin (length us)) ρs) (sym (lines_same rows rs given sparse)) (lines_within rows))

-- one more row
pub sparse_more : (n : ℕ) (places : List ℕ) (rows : List (List Part)) (i : ℕ) (rs : List Row) (ps : List Part) (row : Row) → AreSparse n places (take i rows) rs → i < length rows → ps ≡ get_or rows i ps → IsSparse n places ps row →
    AreSparse n places (take (i + 1) rows) (rs ++ row ∷ [])
sparse_more n places rows i rs ps row s h e q = subst (λ m. AreSparse n places (take m rows) (rs ++ row ∷ [])) (sym (add-one i)) (go rows i rs s h e)
  where
    go : (rows : List (List Part)) (i : ℕ) (rs : List Row) → AreSparse n places (take i rows) rs → i < length rows → ps ≡ get_or rows i ps → AreSparse n places (take (suc i) rows) (rs ++ row ∷ [])
    go [] i rs s h e = absurd (omega (arith, h))
    go (x ∷ rows) zero [] s h e = (subst (λ y. IsSparse n places y row) e q, tt)
    go (x ∷ rows) zero (y ∷ rs) s h e = absurd s
    go (x ∷ rows) (suc i) [] s h e = absurd s
    go (x ∷ rows) (suc i) (y ∷ rs) s h e = (s.0, go rows i rs s.1 (omega (arith, h)) e)
