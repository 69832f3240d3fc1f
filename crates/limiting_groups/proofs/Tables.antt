-- What classes and the rows of turning words leave are the tensors that a limiting group leaves unchanged.
--   curie_fits      the table fits
--   curie_grows, curie_calm    a number grows exactly where the elimination's does
use Rattle.std.proofs.Common.{◌≡◌, ℕ, ◌^◌, ◌↔◌, List, [], sym, ◌∙◌, subst, inl, inr}
use Rattle.std.specs.Prelude.{Bool, filter}
use Rattle.tensor_defs.specs.Prelude.{AreRepresentatives, AreUnknowns, Carrier, GrowsFrom, IsDropped, InGroup, JahnSymbol, rank, Each, IsListing, Operation}
use Rattle.tensor_defs.specs.Prelude.{comes_before, index_before, Table, Index, Tensor, Word, words}
use Rattle.magnetic_groups.specs.Sets.{In}
use Rattle.sign_moves.specs.declared.classes.Entry.{Entry}
use Rattle.tensor_rank.specs.Prelude.{ByIndex, Ordering, before_at, before_of, ShapeValue, IsShapeOf, orders_are_orders}
use Rattle.constraint_rows.specs.Prelude.{is_turning, AreParts, AreSound, AreWordRows, carrier_of}
use Rattle.constraint_rows.specs.declared.rows.Part.{Part}
use Rattle.axis_laws.specs.Laws.{OneElimination}
use Rattle.reduced_form.specs.Solving.{FitsSet, IsSolution, lines_at}
use Rattle.reduced_form.proofs.AxisForms.{solution_solves, solves_solution, system_exists, word_lines}
use Rattle.reduced_form.proofs.Systems.{are_unknowns, index_list}
use Rattle.limiting_defs.specs.Limiting.{IsCurieInvariant, diagonal_symbol}
use Rattle.limiting_defs.specs.declared.Curie.{Curie}
use Rattle.limiting_laws.specs.Laws.{TurningRowsDecide}
use Rattle.limiting_groups.specs.CurieTables.{CurieGrows, FitsCurie}

-- the same table for two sets with the same members
fits_same : (r : ℕ) (S S' : Tensor → Type 0) (before : Index → Index → Bool) (a : Table) → ((t : Tensor) → S t ↔ S' t) →
    FitsSet r S before a → FitsSet r S' before a
fits_same r S S' before a same f = record {
  rising = f.rising;
  of_rank = f.of_rank;
  well_formed = f.well_formed;
  gives = λ v is. (same _).0 (f.gives v is);
  reaches = λ t h. f.reaches t ((same t).1 h);
  once = f.once;
  own = f.own;
  earlier = f.earlier;
}

-- the same representatives for two sets with the same members
representatives_same : (j : JahnSymbol) (H H' : Operation → Type 0) (before : Index → Index → Bool) (rep : Carrier) →
    ((g : Operation) → H g → H' g) → ((g : Operation) → H' g → H g) → AreRepresentatives j H before rep →
    AreRepresentatives j H' before rep
representatives_same j H H' before rep to from p = record {
  none = λ c l. (λ e. dropped H H' to c ((p.none c l).0 e), λ d. (p.none c l).1 (dropped H' H from c d));
  some = p.some;
}
  where
    dropped : (A B : Operation → Type 0) → ((g : Operation) → A g → B g) → (c : Index) → IsDropped j A c → IsDropped j B c
    dropped A B f c (inl z) = inl z
    dropped A B f c (inr (g, h, d, e)) = inr (g, f g h, d, e)

abbrev pub turning : ℕ → List Word
turning r = filter is_turning (words r)

module _ (group : Curie) (hs : List Operation) (listed : IsListing comes_before (InGroup (diagonal_symbol group)) hs)
    (n : ℕ) (es : List Entry) (rows : List (List Part)) where
  -- where the rank is that of the symbol
  module _ (j : JahnSymbol) (size : n ≡ 3 ^ rank j) (sound : AreSound n (before_at (rank j) ByIndex) es)
      (are_words : AreWordRows (rank j) (before_at (rank j) ByIndex) es (turning (rank j)) rows)
      (reps : AreRepresentatives j (In hs) (before_of ByIndex) (carrier_of (rank j) es)) where
    own_reps : AreRepresentatives j (InGroup (diagonal_symbol group)) index_before (carrier_of (rank j) es)
    own_reps = representatives_same j (In hs) (InGroup (diagonal_symbol group)) index_before (carrier_of (rank j) es)
        (λ g h. (listed.members g).0 h) (λ g h. (listed.members g).1 h) reps

    fits_here : TurningRowsDecide → Each (AreParts n) rows → (a : Table) →
        FitsSet (rank j) (IsSolution (rank j) es rows) (before_of ByIndex) a → FitsCurie j group a
    fits_here law parts a fits =
        let s = system_exists n (rank j) size ByIndex es sound in
        let us : List Index = index_list (rank j) s.0 in
        fits_same (rank j) (IsSolution (rank j) es rows) (IsCurieInvariant j group) index_before a (λ t.
        let decides = law group j index_before (carrier_of (rank j) es) us (orders_are_orders (rank j) ByIndex) own_reps (are_unknowns s.2) t in (
          λ sol. decides.1 (solution_solves n (rank j) ByIndex es (turning (rank j)) rows s.0 s.1 s.2 are_words parts t sol),
          λ inv. solves_solution n (rank j) ByIndex es (turning (rank j)) rows s.0 s.1 s.2 are_words parts t (decides.0 inv),
        )) fits

    grows_here : ((us : List Index) → AreUnknowns (rank j) (before_of ByIndex) (carrier_of (rank j) es) us → GrowsFrom [] (lines_at us rows)) →
        CurieGrows j group
    grows_here g =
        let s = system_exists n (rank j) size ByIndex es sound in
        let us : List Index = index_list (rank j) s.0 in
        let are = are_unknowns s.2 in (
          carrier_of (rank j) es,
          us,
          own_reps,
          are,
          subst (λ ρs. GrowsFrom [] ρs) (word_lines (rank j) (before_at (rank j) ByIndex) es us are.of_rank (turning (rank j)) rows are_words) (g us are),
        )

    calm_here : OneElimination →
        ((us : List Index) → AreUnknowns (rank j) (before_of ByIndex) (carrier_of (rank j) es) us → GrowsFrom [] (lines_at us rows) → ⊥) →
        CurieGrows j group → ⊥
    calm_here law calm (rep, vs, reps', are', grows) =
        let s = system_exists n (rank j) size ByIndex es sound in
        let us : List Index = index_list (rank j) s.0 in
        let are = are_unknowns s.2 in
        let other : AreRepresentatives j (In hs) index_before rep = representatives_same j (InGroup (diagonal_symbol group)) (In hs) index_before rep
        (λ g h. (listed.members g).1 h) (λ g h. (listed.members g).0 h) reps' in
        let same = law j hs index_before (carrier_of (rank j) es) rep us vs (orders_are_orders (rank j) ByIndex) reps other are are' (turning (rank j)) in
        calm us are (subst (λ ρs. GrowsFrom [] ρs)
        (sym (word_lines (rank j) (before_at (rank j) ByIndex) es us are.of_rank (turning (rank j)) rows are_words ∙ same.1)) grows)

  -- where it is that of a shape
  module _ (r : ℕ) (s : ShapeValue) (size : n ≡ 3 ^ r) (sound : AreSound n (before_at r ByIndex) es)
      (are_words : AreWordRows r (before_at r ByIndex) es (turning r) rows)
      (reps : (j : JahnSymbol) → IsShapeOf j r s → AreRepresentatives j (In hs) (before_of ByIndex) (carrier_of r es)) where
    index_fits : TurningRowsDecide → Each (AreParts n) rows → (a : Table) →
        FitsSet r (IsSolution r es rows) (before_of ByIndex) a → (j : JahnSymbol) → IsShapeOf j r s → FitsCurie j group a
    index_fits law parts a fits j shape =
        let C : ℕ → Type 0 = λ x. n ≡ 3 ^ x → AreSound n (before_at x ByIndex) es → AreWordRows x (before_at x ByIndex) es (turning x) rows →
        AreRepresentatives j (In hs) (before_of ByIndex) (carrier_of x es) → FitsSet x (IsSolution x es rows) (before_of ByIndex) a → FitsCurie j group a in
        let base : C (rank j) = λ p q w m f. fits_here j p q w m law parts a f in
        subst C shape.rank_is base size sound are_words (reps j shape) fits

    index_grows : ((us : List Index) → AreUnknowns r (before_of ByIndex) (carrier_of r es) us → GrowsFrom [] (lines_at us rows)) →
        (j : JahnSymbol) → IsShapeOf j r s → CurieGrows j group
    index_grows g j shape =
        let C : ℕ → Type 0 = λ x. n ≡ 3 ^ x → AreSound n (before_at x ByIndex) es → AreWordRows x (before_at x ByIndex) es (turning x) rows →
        AreRepresentatives j (In hs) (before_of ByIndex) (carrier_of x es) →
        ((us : List Index) → AreUnknowns x (before_of ByIndex) (carrier_of x es) us → GrowsFrom [] (lines_at us rows)) → CurieGrows j group in
        let base : C (rank j) = λ p q w m f. grows_here j p q w m f in
        subst C shape.rank_is base size sound are_words (reps j shape) g

    index_calm : OneElimination →
        ((us : List Index) → AreUnknowns r (before_of ByIndex) (carrier_of r es) us → GrowsFrom [] (lines_at us rows) → ⊥) →
        (j : JahnSymbol) → IsShapeOf j r s → CurieGrows j group → ⊥
    index_calm law calm j shape =
        let C : ℕ → Type 0 = λ x. n ≡ 3 ^ x → AreSound n (before_at x ByIndex) es → AreWordRows x (before_at x ByIndex) es (turning x) rows →
        AreRepresentatives j (In hs) (before_of ByIndex) (carrier_of x es) →
        ((us : List Index) → AreUnknowns x (before_of ByIndex) (carrier_of x es) us → GrowsFrom [] (lines_at us rows) → ⊥) → CurieGrows j group → ⊥ in
        let base : C (rank j) = λ p q w m f. calm_here j p q w m law f in
        subst C shape.rank_is base size sound are_words (reps j shape) calm

  -- where the order is known to be index order
  module _ (r : ℕ) (s : ShapeValue) (size : n ≡ 3 ^ r) (o : Ordering) (index : o ≡ ByIndex) (sound : AreSound n (before_at r o) es)
      (are_words : AreWordRows r (before_at r o) es (turning r) rows)
      (reps : (j : JahnSymbol) → IsShapeOf j r s → AreRepresentatives j (In hs) (before_of o) (carrier_of r es)) where
    abbrev Given : Ordering → Type 0 → Type 0
    Given x A = AreSound n (before_at r x) es → AreWordRows r (before_at r x) es (turning r) rows →
        ((j : JahnSymbol) → IsShapeOf j r s → AreRepresentatives j (In hs) (before_of x) (carrier_of r es)) → A

    pub curie_fits : TurningRowsDecide → Each (AreParts n) rows → (a : Table) →
        FitsSet r (IsSolution r es rows) (before_of o) a → (j : JahnSymbol) → IsShapeOf j r s → FitsCurie j group a
    curie_fits law parts a fits j shape =
        subst (λ (x : Ordering). Given x (FitsSet r (IsSolution r es rows) (before_of x) a → FitsCurie j group a)) (sym index)
        (λ p w m f. index_fits r s size p w m law parts a f j shape) sound are_words reps fits

    pub curie_grows : ((us : List Index) → AreUnknowns r (before_of o) (carrier_of r es) us → GrowsFrom [] (lines_at us rows)) →
        (j : JahnSymbol) → IsShapeOf j r s → CurieGrows j group
    curie_grows g j shape =
        subst (λ (x : Ordering). Given x (((us : List Index) → AreUnknowns r (before_of x) (carrier_of r es) us → GrowsFrom [] (lines_at us rows)) →
        CurieGrows j group)) (sym index) (λ p w m f. index_grows r s size p w m f j shape) sound are_words reps g

    pub curie_calm : OneElimination →
        ((us : List Index) → AreUnknowns r (before_of o) (carrier_of r es) us → GrowsFrom [] (lines_at us rows) → ⊥) →
        (j : JahnSymbol) → IsShapeOf j r s → CurieGrows j group → ⊥
    curie_calm law calm j shape =
        subst (λ (x : Ordering). Given x (((us : List Index) → AreUnknowns r (before_of x) (carrier_of r es) us → GrowsFrom [] (lines_at us rows) → ⊥) →
        CurieGrows j group → ⊥)) (sym index) (λ p w m f. index_calm r s size p w m law f j shape) sound are_words reps calm
