-- A request for the components that distinguish states has one answer.
--   state_row_same      tables with the same terms give the same rows of a state
--   row_terms_same      a row has its terms in one way
--   state_texts_same    the texts of states are told by the states and the table
--   one_differ_lem      a request for distinguishing components has one answer
use Rattle.list_laws.proofs.Kit.{◌≡◌, ℕ, ◌+◌, ◌<◌, ◌^◌, List, [], ◌∷◌, ◌++◌, length, drop, ap, sym, ◌∙◌, arith, subst, flat_map, decimal, nat_tests}
use Rattle.std.specs.Prelude.{◌≢◌, true, map, codes, IsTrue, Contains, nat_lt}
use Rattle.list_laws.proofs.Prelude.{each_map, each_held, each_from, rising_same, listing_same}
use Rattle.tensor_defs.specs.Prelude.{InGroup, JahnSymbol, rank, Each, mul, num_zero, IsRoot3, Operation, index_before, factor_at, state_part, state_row}
use Rattle.tensor_defs.specs.Prelude.{RootTerm, root_places_rise, IsStateRow, Distinguishes, GroupSymbol, IsGroupSymbol, Table, Index, Marks, indices, sign}
use Rattle.tensor_defs.specs.Prelude.{coefficient}
use Rattle.tensor_laws.proofs.Prelude.{index_order, same_free, same_terms, sum_of-same}
use Rattle.text_defs.specs.Prelude.{line_of, equation, component_name, named_roots, state_text, or_none, group_text, jahn_text, IsStateText, AreStateTexts}
use Rattle.text_defs.specs.Prelude.{IsDifferText}
use Rattle.answer_laws.proofs.DomainStates.{one_state_list}
use Rattle.answer_laws.proofs.Forms.{flat_map_same, indices_of_rank, joined_same}
use Rattle.answer_laws.proofs.Groups.{symbol_group}
use Rattle.answer_laws.proofs.Roots.{one_root}
use Rattle.answer_laws.specs.Laws.{OneDiffer}

-- ---- rows

place_irreflexive : (t : RootTerm) → ¬ IsTrue (root_places_rise t t)
place_irreflexive t h = below t.place h
  where
    below : (n : ℕ) → nat_lt n n ≡ true → ⊥
    below n h = grind (arith, nat_tests)

place_transitive : (s t u : RootTerm) → IsTrue (root_places_rise s t) → IsTrue (root_places_rise t u) →
    IsTrue (root_places_rise s u)
place_transitive s t u h k = chain s.place t.place u.place h k
  where
    chain : (a b c : ℕ) → nat_lt a b ≡ true → nat_lt b c ≡ true → nat_lt a c ≡ true
    chain a b c h k = grind (arith, nat_tests)

module _ (m : Marks) (g : Operation) (a b : Table) (r : ℕ) (free : a.free ≡ b.free) (terms : (c : Index) →
    length c ≡ r → a.terms c ≡ b.terms c) where
  state_row_same : (i : Index) (k : ℕ) → state_row m g a r i k ≡ state_row m g b r i k
  state_row_same i k =
      sum_of-same (state_part m g a i k) (state_part m g b i k) (indices r)
      (each_map (λ c. length c ≡ r) (λ c. state_part m g a i k c ≡ state_part m g b i k c)
      (λ c n. ap (λ ts. mul (mul (sign m g) (coefficient g i c)) (factor_at ts k)) (terms c n)) (indices r)
      (indices_of_rank r))

  term_within : (i : Index) (ts us : List RootTerm) → IsStateRow m g a r i ts → IsStateRow m g b r i us →
      (t : RootTerm) → Contains ts t → Contains us t
  term_within i ts us p q t c =
      let own = each_held (λ t. (t.place < length a.free) × (state_row m g a r i t.place ≢ num_zero)
      × IsRoot3 (state_row m g a r i t.place) t.factor) ts p.terms t c in
      let place : t.place < length b.free = subst (λ fs. t.place < length fs) free own.0 in
      let other = q.whole t.place place (λ e. own.1 (state_row_same i t.place ∙ e)) in
      let of_other = each_held (λ t. (t.place < length b.free) × (state_row m g b r i t.place ≢ num_zero)
      × IsRoot3 (state_row m g b r i t.place) t.factor) us q.terms other.0 other.1 in
      let factors : t.factor ≡ other.0.factor = one_root (state_row m g a r i t.place)
      (state_row m g b r i other.0.place) t.factor other.0.factor
      (state_row_same i t.place ∙ ap (state_row m g b r i) (sym other.2)) own.2 of_other.2 in
      let same : other.0 ≡ t = λ n. record { place = other.2 n; factor = sym factors n } in
      subst (λ u. Contains us u) same other.1

pub row_terms_same : (m : Marks) (g : Operation) (a b : Table) (r : ℕ) → a.free ≡ b.free →
    ((c : Index) → length c ≡ r → a.terms c ≡ b.terms c) → (i : Index) (ts us : List RootTerm) →
    IsStateRow m g a r i ts → IsStateRow m g b r i us → ts ≡ us
row_terms_same m g a b r free terms i ts us p q =
    rising_same root_places_rise place_irreflexive place_transitive ts us p.rising q.rising
    (term_within m g a b r free terms i ts us p q)
    (term_within m g b a r (sym free) (λ c n. sym (terms c n)) i us ts q p)

-- ---- texts of states
module _ (j : JahnSymbol) (F : Operation → Type 0) (a b : Table) (free : a.free ≡ b.free) (terms : (c : Index) →
    length c ≡ rank j → a.terms c ≡ b.terms c) where
  state_text_same : (k : ℕ) (g : Operation) (x y : List ℕ) → IsStateText j F a k g x → IsStateText j F b k g y → x ≡ y
  state_text_same k g x y p q =
      let marked : p.marked ≡ q.marked = listing_same index_before (index_order (rank j)).irreflexive
      (index_order (rank j)).transitive (λ i. (length i ≡ rank j) × Distinguishes j F g i)
      (λ i. (length i ≡ rank j) × Distinguishes j F g i) (λ i h. h) (λ i h. h) p.marked q.marked p.listing q.listing in
      let own : Each (λ i. IsStateRow j.marks g a (rank j) i (p.rows i)) q.marked = subst (λ is. Each (λ i. IsStateRow
      j.marks g a (rank j) i (p.rows i)) is) marked p.are_rows in
      let line : (rows : Index → List RootTerm) (fs : List Index) (i : Index) → List ℕ = λ rows fs i.
      equation (component_name i) (named_roots (map component_name fs) (rows i)) in
      let lines : flat_map (line p.rows a.free) q.marked ≡ flat_map (line q.rows b.free) q.marked =
      flat_map_same (line p.rows a.free) (line q.rows b.free) q.marked
      (each_from (λ i. line p.rows a.free i ≡ line q.rows b.free i) q.marked
      (λ i c n. equation (component_name i) (named_roots (map component_name (free n))
      (row_terms_same j.marks g a b (rank j) free terms i (p.rows i) (q.rows i)
      (each_held (λ i. IsStateRow j.marks g a (rank j) i (p.rows i)) q.marked own i c)
      (each_held (λ i. IsStateRow j.marks g b (rank j) i (q.rows i)) q.marked q.are_rows i c) n)))) in
      p.text ∙ ap (λ is. state_text k (rank j) a is p.rows) marked
      ∙ (λ n. line_of (codes "state" ∷ decimal k ∷ codes "differs" ∷ decimal (length q.marked) ∷ codes "of"
      ∷ decimal (3 ^ rank j) ∷ []) ++ lines n)
      ∙ sym q.text

  pub state_texts_same : (k : ℕ) (gs : List Operation) (x y : List ℕ) → AreStateTexts j F a k gs x →
      AreStateTexts j F b k gs y → x ≡ y
  state_texts_same k [] x y p q = p ∙ sym q
  state_texts_same k (g ∷ gs) x y p q =
      p.4 ∙ (λ n. state_text_same k g p.0 q.0 p.2 q.2 n ++ state_texts_same (k + 1) gs p.1 q.1 p.3 q.3 n) ∙ sym q.4

one_differ_text : (g f : GroupSymbol) → IsGroupSymbol f → (j : JahnSymbol) (x y : List ℕ) → IsDifferText g f j x →
    IsDifferText g f j y → x ≡ y
one_differ_text g f h j x y p q =
    let F = InGroup f in
    let order = index_order (rank j) in
    let free = same_free j F index_before order p.table q.table p.fits q.fits in
    let terms = same_terms j F index_before order p.table q.table p.fits q.fits in
    let reps : p.reps ≡ q.reps = one_state_list (InGroup g) F (symbol_group f h) p.reps q.reps p.states q.states in
    let texts : p.texts ≡ q.texts = state_texts_same j F p.table q.table free terms 2 (drop 1 q.reps) p.texts
    q.texts (subst (λ gs. AreStateTexts j F p.table 2 (drop 1 gs) p.texts) reps p.are_texts) q.are_texts in
    p.text
    ∙ (λ n. line_of (codes "differ" ∷ group_text g ∷ group_text f ∷ jahn_text j ∷ codes "states"
    ∷ decimal (length (reps n)) ∷ codes "free" ∷ or_none (map component_name (free n)) ∷ []) ++ texts n)
    ∙ sym q.text

pub one_differ_lem : OneDiffer
one_differ_lem g f js h x y p q =
    joined_same (IsDifferText g.symbol f.symbol) (one_differ_text g.symbol f.symbol h) js x y p q
