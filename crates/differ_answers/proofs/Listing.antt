-- The components that differ, in index order, and the texts of states one after the other.
--   marked_listing  the marked components are those that distinguish the state, in index order
--   texts_more      one more state
--   texts_same      the texts over sets with the same members
use Rattle.list_laws.proofs.Kit.{◌≡◌, ℕ, zero, suc, ◌+◌, ◌<◌, ◌≤◌, ◌^◌, inl, inr, Bool, true, false, cond, List, [], ◌∷◌, ◌++◌, length, refl, ap, sym, ◌∙◌}
use Rattle.list_laws.proofs.Kit.{arith, subst, cases_lt, nat_tests, Contains-append_cases, Contains-append_left, Contains-append_right}
use Rattle.std.proofs.Common.{append_assoc}
use Rattle.std.specs.Prelude.{Contains, IsTrue, nat_lt}
use Rattle.std.proofs.lemmas.List.{append-nil}
use Rattle.list_laws.proofs.Prelude.{held_cases, held_here, each_from, rising_push}
use Rattle.tensor_defs.specs.Prelude.{SameSet, JahnSymbol, rank, IsListing, IsRising, Operation, index_before, Distinguishes, IsStateRow, Table, Index}
use Rattle.tensor_defs.specs.Prelude.{component_number, index_of}
use Rattle.tensor_laws.proofs.Prelude.{length-index_of, number-index_of, same_back}
use Rattle.tensor_rank.specs.IndexLaws.{component_below_at, index_number_at}
use Rattle.tensor_rank.proofs.OrderLaws.{index_order_at}
use Rattle.text_defs.specs.Prelude.{AreStateTexts, IsStateText, state_text}
use Rattle.reduced_form.proofs.SetLaws.{same_admitted}
use Rattle.state_marks.specs.Told.{StateValue, TellsState, mark_at, row_of}
use Rattle.differ_answers.specs.Texts.{marked_below, marked_indices}

module _ (r : ℕ) (s : StateValue) where
  abbrev IsOne : ℕ → Index → Type 0
  IsOne n i = (length i ≡ r) × (component_number i < n) × (mark_at s (component_number i) ≡ true)

  one_more : (n : ℕ) (i : Index) → IsOne n i → IsOne (n + 1) i
  one_more n i h = let l = h.1 in (h.0, omega (arith, l), h.2)

  here : (n : ℕ) → n < 3 ^ r → mark_at s n ≡ true → IsOne (suc n) (index_of r n)
  here n h m =
      let e = number-index_of r n h in
      (length-index_of r n, omega (arith, e), ap (mark_at s) e ∙ m)

  -- those below a bound
  held_below : (n : ℕ) → n ≤ 3 ^ r → (i : Index) → Contains (marked_below r s n) i → IsOne n i
  held_below zero h i c = let l = c.1 in absurd (omega (arith, l))
  held_below (suc n) h i c =
      elim (Contains-append_cases (marked_below r s n) (cond (mark_at s n) (index_of r n ∷ []) []) i c) [
        | inl d ↦ (let o = held_below n (omega (arith, h)) i d in let l = o.1 in (o.0, omega (arith, l), o.2))
        | inr d ↦ last (mark_at s n) refl d
      ]
    where
      last : (b : Bool) → mark_at s n ≡ b → Contains (cond b (index_of r n ∷ []) []) i → IsOne (suc n) i
      last true m d = elim (held_cases i (index_of r n) [] d) [
        | inl e ↦ subst (IsOne (suc n)) e (here n (omega (arith, h)) m)
        | inr e ↦ (let l = e.1 in absurd (omega (arith, l)))
      ]
      last false m d = let l = d.1 in absurd (omega (arith, l))

  below_held : (n : ℕ) → n ≤ 3 ^ r → (i : Index) → IsOne n i → Contains (marked_below r s n) i
  below_held zero h i o = let l = o.1 in absurd (omega (arith, l))
  below_held (suc n) h i o = elim (cases_lt (component_number i) n) [
    | inl l ↦
        Contains-append_left (marked_below r s n) (cond (mark_at s n) (index_of r n ∷ []) []) i
        (below_held n (omega (arith, h)) i (o.0, l, o.2))
    | inr l ↦
        (let m = o.1 in
        let e : component_number i ≡ n = omega (arith, l, m) in
        let own : index_of r n ≡ i = ap (index_of r) (sym e) ∙ index_number_at r i o.0 in
        let mark : mark_at s n ≡ true = ap (mark_at s) (sym e) ∙ o.2 in
        Contains-append_right (marked_below r s n) (cond (mark_at s n) (index_of r n ∷ []) []) i
        (subst (λ b. Contains (cond b (index_of r n ∷ []) []) i) (sym mark)
        (subst (λ x. Contains (index_of r n ∷ []) x) own (held_here (index_of r n) []))))
  ]

  comes_before : (n : ℕ) → n < 3 ^ r → (i : Index) → IsOne n i → IsTrue (index_before i (index_of r n))
  comes_before n h i o =
      let l = o.1 in
      let less : nat_lt (component_number i) n ≡ true = grind (arith, nat_tests, l) in
      subst (λ x. IsTrue (index_before x (index_of r n))) (index_number_at r i o.0)
      (index_order_at r (component_number i) n (component_below_at r i o.0) h ∙ less)

  rises_more : (n : ℕ) → n < 3 ^ r → IsRising index_before (marked_below r s n) → (b : Bool) →
      IsRising index_before (marked_below r s n ++ cond b (index_of r n ∷ []) [])
  rises_more n h before true =
      rising_push index_before (marked_below r s n) (index_of r n) before
      (each_from (λ i. IsTrue (index_before i (index_of r n))) (marked_below r s n)
      (λ i c. comes_before n h i (held_below n (omega (arith, h)) i c)))
  rises_more n h before false = subst (IsRising index_before) (sym (append-nil (marked_below r s n))) before

  rises_below : (n : ℕ) → n ≤ 3 ^ r → IsRising index_before (marked_below r s n)
  rises_below zero h = tt
  rises_below (suc n) h = rises_more n (omega (arith, h)) (rises_below n (omega (arith, h))) (mark_at s n)

-- the marked components of a state
pub marked_listing : (j : JahnSymbol) (F : Operation → Type 0) (r : ℕ) (a : Table) (g : Operation) (s : StateValue) → rank j ≡ r →
    TellsState j F r a g s → IsListing index_before (λ i. (length i ≡ rank j) × Distinguishes j F g i) (marked_indices r s)
marked_listing j F r a g s e told = record {
  rising = rises_below r s (3 ^ r) (omega arith);
  members = λ i. (
    (λ c.
        let o = held_below r s (3 ^ r) (omega arith) i c in
        (o.0 ∙ sym e, (told i o.0).0.0 o.2)),
    (λ d.
        let l : length i ≡ r = d.0 ∙ e in
        below_held r s (3 ^ r) (omega arith) i (l, component_below_at r i l, (told i l).0.1 d.1)),
  );
}

-- ---- the texts of states
pub state_told : (j : JahnSymbol) (F : Operation → Type 0) (r : ℕ) (a : Table) (g : Operation) (s : StateValue) (k : ℕ)
    (bytes : List ℕ) → rank j ≡ r → TellsState j F r a g s → bytes ≡ state_text k r a (marked_indices r s) (row_of s) →
    IsStateText j F a k g bytes
state_told j F r a g s k bytes e told text =
    let listing = marked_listing j F r a g s e told in
    record {
      marked = marked_indices r s;
      listing = listing;
      rows = row_of s;
      are_rows = each_from (λ i. IsStateRow j.marks g a (rank j) i (row_of s i)) (marked_indices r s)
          (λ i c. let l : length i ≡ r = ((listing.members i).0 c).0 ∙ e in
          subst (λ n. IsStateRow j.marks g a n i (row_of s i)) (sym e) (told i l).1);
      text = text ∙ ap (λ n. state_text k n a (marked_indices r s) (row_of s)) (sym e);
    }

-- one more state behind others
pub texts_more : (j : JahnSymbol) (F : Operation → Type 0) (a : Table) (gs : List Operation) (k m : ℕ) (g : Operation) (xs ys : List ℕ) →
    AreStateTexts j F a k gs xs → m ≡ k + length gs → IsStateText j F a m g ys → AreStateTexts j F a k (gs ++ g ∷ []) (xs ++ ys)
texts_more j F a [] k m g xs ys told e text =
    let here : m ≡ k = omega (arith, e) in
    (ys, [], subst (λ n. IsStateText j F a n g ys) here text, refl, ap (λ l. l ++ ys) told ∙ sym (append-nil ys))
texts_more j F a (h ∷ gs) k m g xs ys (first, others, one, rest, whole) e text =
    let later : m ≡ k + 1 + length gs = omega (arith, e) in (
      first,
      others ++ ys,
      one,
      texts_more j F a gs (k + 1) m g others ys rest later text,
      ap (λ l. l ++ ys) whole ∙ append_assoc first others ys,
    )

-- ---- sets with the same members
distinguishes_same : (j : JahnSymbol) (F H : Operation → Type 0) → SameSet F H → (g : Operation) (i : Index) → Distinguishes j F g i →
    Distinguishes j H g i
distinguishes_same j F H s g i d = (d.0, (same_admitted j F H s d.0).0 d.1, d.2)

state_same : (j : JahnSymbol) (F H : Operation → Type 0) → SameSet F H → (a : Table) (k : ℕ) (g : Operation) (bytes : List ℕ) →
    IsStateText j F a k g bytes → IsStateText j H a k g bytes
state_same j F H s a k g bytes t = record {
  marked = t.marked;
  listing = record {
    rising = t.listing.rising;
    members = λ i. (
      (λ c. let d = (t.listing.members i).0 c in (d.0, distinguishes_same j F H s g i d.1)),
      (λ d. (t.listing.members i).1 (d.0, distinguishes_same j H F (same_back F H s) g i d.1)),
    );
  };
  rows = t.rows;
  are_rows = t.are_rows;
  text = t.text;
}

pub texts_same : (j : JahnSymbol) (F H : Operation → Type 0) → SameSet F H → (a : Table) (k : ℕ) (gs : List Operation) (bytes : List ℕ) →
    AreStateTexts j F a k gs bytes → AreStateTexts j H a k gs bytes
texts_same j F H s a k [] bytes t = t
texts_same j F H s a k (g ∷ gs) bytes (first, others, one, rest, whole) =
    (first, others, state_same j F H s a k g first one, texts_same j F H s a (k + 1) gs others rest, whole)
