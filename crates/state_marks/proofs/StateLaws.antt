-- The rows of all components in a state, one after the other, and those of all states.
--   rows-start, rows-more, rows-end    the rows of the components up to n
--   grows_same      growth depends on the terms at indices of the rank
--   told-start, told-more, later-calm    the states from the second on
use Rattle.list_laws.proofs.Kit.{◌≡◌, ℕ, zero, suc, ◌+◌, ◌<◌, ◌≤◌, ◌^◌, inl, inr, Bool, false, List, [], ◌∷◌, ◌++◌, length, take, drop, get_or, ap, sym, ◌∙◌}
use Rattle.list_laws.proofs.Kit.{subst, arith, cases_lt, get_or_push, length_push, get_or-append}
use Rattle.std.specs.Prelude.{Contains, slice_get, Some}
use Rattle.list_laws.proofs.Members.{each_map, each_take}
use Rattle.tensor_defs.specs.Prelude.{mul, PartReaches, ProductReaches, Operation, StateRowGrows, factor_at, state_part, Table, Index, Marks, coefficient}
use Rattle.tensor_defs.specs.Prelude.{component_number, index_of, indices, sign}
use Rattle.tensor_rank.specs.IndexLaws.{component_below_at, index_number_at}
use Rattle.answer_laws.proofs.Forms.{indices_of_rank}
use Rattle.tensor_laws.proofs.Agreeing.{sum_of-same}
use Rattle.state_marks.specs.declared.rows.RootTerm.{RootTerm}
use Rattle.state_marks.specs.Adding.{IsRow}
use Rattle.state_marks.specs.Told.{AreStateRows, AreTold, StateValue, none}
use Rattle.state_marks.proofs.RowTells.{AreRows}

module _ (m : Marks) (g : Operation) (r : ℕ) (a : Table) where
  pub rows-start : (rows : List (List RootTerm)) (marks : List Bool) → rows ≡ [] → marks ≡ [] → AreRows m g r a 0 rows marks
  rows-start rows marks e f = record {
    len_rows = ap length e;
    len_marks = ap length f;
    each = λ c h. absurd (omega (arith, h));
  }

  pub rows-more : (n : ℕ) (rows rows' : List (List RootTerm)) (marks marks' : List Bool) (row : List RootTerm) (marked : Bool) →
      AreRows m g r a n rows marks → IsRow m g r a (index_of r n) row marked → rows' ≡ rows ++ row ∷ [] →
      marks' ≡ marks ++ marked ∷ [] → AreRows m g r a (n + 1) rows' marks'
  rows-more n rows rows' marks marks' row marked s is e f =
      let p : length rows ≡ n = s.len_rows in
      let q : length marks ≡ n = s.len_marks in
      record {
        len_rows = ap length e ∙ length_push rows row ∙ ap (λ k. k + 1) p;
        len_marks = ap length f ∙ length_push marks marked ∙ ap (λ k. k + 1) q;
        each = λ c h.
            subst (λ xs. IsRow m g r a (index_of r c) (get_or xs c []) (get_or marks' c false)) (sym e)
            (subst (λ xs. IsRow m g r a (index_of r c) (get_or (rows ++ row ∷ []) c []) (get_or xs c false)) (sym f)
            (at c h));
      }
    where
      at : (c : ℕ) → c < n + 1 → IsRow m g r a (index_of r c) (get_or (rows ++ row ∷ []) c []) (get_or (marks ++ marked ∷ []) c false)
      at c h = elim (cases_lt c n) as
          (λ _. IsRow m g r a (index_of r c) (get_or (rows ++ row ∷ []) c []) (get_or (marks ++ marked ∷ []) c false)) [
            | inl l ↦
                (let p = s.len_rows in
                let q = s.len_marks in
                let u = get_or-append rows (row ∷ []) [] c (omega (arith, l, p)) in
                let v = get_or-append marks (marked ∷ []) false c (omega (arith, l, q)) in
                subst (λ x. IsRow m g r a (index_of r c) x (get_or (marks ++ marked ∷ []) c false)) (sym u)
                (subst (λ x. IsRow m g r a (index_of r c) (get_or rows c []) x) (sym v) (s.each c l)))
            | inr l ↦
                (let same : n ≡ c = omega (arith, l, h) in
                let u = get_or_push rows row [] c (s.len_rows ∙ same) in
                let v = get_or_push marks marked false c (s.len_marks ∙ same) in
                subst (λ x. IsRow m g r a (index_of r c) x (get_or (marks ++ marked ∷ []) c false)) (sym u)
                (subst (λ x. IsRow m g r a (index_of r c) row x) (sym v) (subst (λ x. IsRow m g r a (index_of r x) row marked) same is)))
          ]

  pub rows-end : (n : ℕ) (s : StateValue) → 3 ^ r ≤ n → AreRows m g r a n s.rows s.marks → AreStateRows m g r a s
  rows-end n s h rows = record {
    rows = λ i l. (at i l).row;
    calm = λ i l. (at i l).calm;
    marks = λ i l. (at i l).marks;
  }
    where
      at : (i : Index) → length i ≡ r → IsRow m g r a i (get_or s.rows (component_number i) []) (get_or s.marks (component_number i) false)
      at i l =
          let c = component_number i in
          let below = component_below_at r i l in
          subst (λ x. IsRow m g r a x (get_or s.rows c []) (get_or s.marks c false)) (index_number_at r i l)
          (rows.each c (omega (arith, below, h)))

-- ---- growth depends on the terms at indices of the rank

pub grows_same : (m : Marks) (g : Operation) (a b : Table) (r : ℕ) (i : Index) → a.free ≡ b.free →
    ((c : Index) → length c ≡ r → a.terms c ≡ b.terms c) → StateRowGrows m g a r i → StateRowGrows m g b r i
grows_same m g a b r i free terms (k, h, inl p) = (
  k,
  subst (λ fs. k < length fs) free h,
  inl (
    p.0,
    p.1,
    subst (λ ts. ProductReaches (mul (sign m g) (coefficient g i p.0)) (factor_at ts k)) (terms p.0 p.1) p.2,
  ),
)
grows_same m g a b r i free terms (k, h, inr p) = (
  k,
  subst (λ fs. k < length fs) free h,
  inr (
    p.0,
    subst PartReaches (sum_of-same (state_part m g a i k) (state_part m g b i k) (take p.0 (indices r))
        (each_take (λ j. state_part m g a i k j ≡ state_part m g b i k j) (indices r) p.0
        (each_map (λ c. length c ≡ r) (λ j. state_part m g a i k j ≡ state_part m g b i k j)
        (λ c l. ap (λ ts. mul (mul (sign m g) (coefficient g i c)) (factor_at ts k)) (terms c l)) (indices r) (indices_of_rank r)))) p.1,
  ),
)

-- ---- states from the second on

module _ (m : Marks) (r : ℕ) (a : Table) (reps : List Operation) where
  pub told-start : (states : List StateValue) → states ≡ [] → AreTold m r a reps 1 states
  told-start states e = record {
    len = ap (λ s. length s + 1) e;
    each = λ k g h. absurd (omega (arith, h));
  }

  pub told-more : (n : ℕ) (states states' : List StateValue) (g : Operation) (s : StateValue) → AreTold m r a reps n states →
      slice_get reps n ≡ Some g → AreStateRows m g r a s → states' ≡ states ++ s ∷ [] → AreTold m r a reps (n + 1) states'
  told-more n states states' g s told at is e =
      let p = told.len in
      let more = ap length e ∙ length_push states s in
      record {
        len = omega (arith, more, p);
        each = λ k h l rep. subst (λ xs. AreStateRows m h r a (get_or xs k none)) (sym e) (next k h l rep);
      }
    where
      same : (x y : Operation) → Some x ≡ Some y → x ≡ y
      same x y e = cc

      next : (k : ℕ) (h : Operation) → k + 1 < n + 1 → slice_get reps (k + 1) ≡ Some h →
          AreStateRows m h r a (get_or (states ++ s ∷ []) k none)
      next k h l rep =
          let p = told.len in
          elim (cases_lt (k + 1) n) as (λ _. AreStateRows m h r a (get_or (states ++ s ∷ []) k none)) [
            | inl less ↦
                subst (AreStateRows m h r a) (sym (get_or-append states (s ∷ []) none k (omega (arith, less, p))))
                (told.each k h less rep)
            | inr more ↦
                (let here : k + 1 ≡ n = omega (arith, more, l) in
                let last : length states ≡ k = omega (arith, here, p) in
                let op : g ≡ h = same g h (sym at ∙ ap (slice_get reps) (sym here) ∙ rep) in
                subst (AreStateRows m h r a) (sym (get_or_push states s none k last)) (subst (λ x. AreStateRows m x r a s) op is))
          ]

  -- an operation of a later state
  pub later-calm : (states : List StateValue) → AreTold m r a reps (length reps) states → (g : Operation) → Contains (drop 1 reps) g →
      (i : Index) → length i ≡ r → StateRowGrows m g a r i → ⊥
  later-calm states told g c i l =
      let k = c.0 in
      let place : slice_get reps (k + 1) ≡ Some g = at reps k g c.1 c.2 in
      (told.each k g (below reps k c.1) place).calm i l
    where
      below : (xs : List Operation) (k : ℕ) → k < length (drop 1 xs) → k + 1 < length xs
      below [] k h = absurd (omega (arith, h))
      below (x ∷ xs) k h = omega (arith, h)

      read : (xs : List Operation) (k : ℕ) (d : Operation) → k < length xs → get_or xs k d ≡ d → slice_get xs k ≡ Some d
      read [] k d h e = absurd (omega (arith, h))
      read (x ∷ xs) zero d h e = ap Some e
      read (x ∷ xs) (suc k) d h e = read xs k d (omega (arith, h)) e

      at : (xs : List Operation) (k : ℕ) (d : Operation) → k < length (drop 1 xs) → get_or (drop 1 xs) k d ≡ d → slice_get xs (k + 1) ≡ Some d
      at [] k d h e = absurd (omega (arith, h))
      at (x ∷ xs) k d h e = let next : suc k ≡ k + 1 = omega arith in subst (λ n. slice_get (x ∷ xs) n ≡ Some d) next (read xs k d h e)
