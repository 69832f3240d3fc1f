-- Two groups have one list of states.
--   same_operation      operations are the same, or they aren't
--   one_state_list      the states are told by the two sets, where the second is a group
--   one_states_lem      a request for states has one answer
use Rattle.list_laws.proofs.Kit.{◌≡◌, ◌≢◌, ℕ, Bool, true, false, List, refl, ap, sym, ◌∙◌, ◌⊎◌, inl, inr, subst, eqb_tells}
use Rattle.std.specs.Prelude.{Contains, IsTrue}
use lib.IntN.{ℤ, pos, negsuc}
use Rattle.list_laws.proofs.Prelude.{each_held, rising_same}
use Rattle.tensor_defs.specs.Prelude.{InGroup, Entry, Row, Operation, identity, comes_before, Times, AreStates}
use Rattle.tensor_laws.proofs.Prelude.{product_assoc_back, IsGroup, times_one}
use Rattle.text_defs.specs.AnswerTexts.{states_text}
use Rattle.answer_laws.proofs.Groups.{symbol_group}
use Rattle.answer_laws.proofs.Listings.{before_irreflexive, before_transitive}
use Rattle.answer_laws.specs.Laws.{OneStates}

-- ---- operations are the same, or they aren't
abbrev Told : {A : Type 0} → A → A → Type 0
Told a b = (a ≡ b) ⊎ (a ≢ b)

told_by : {A B : Type 0} (a b : A) (c d : B) → (a ≡ b → c ≡ d) → (c ≡ d → a ≡ b) → Told a b → Told c d
told_by a b c d f g (inl e) = inl (f e)
told_by a b c d f g (inr n) = inr (λ e. n (g e))

same_number : (a b : ℕ) → Told a b
same_number a b = elim (eqb_tells a b) [ inl is ↦ inl is.1 | inr isnt ↦ inr isnt.1 ]

same_int : (a b : ℤ) → Told a b
same_int (pos a) (pos b) = told_by a b (pos a) (pos b) (ap pos) (λ e. cc) (same_number a b)
same_int (pos a) (negsuc b) = inr (λ e. cc)
same_int (negsuc a) (pos b) = inr (λ e. cc)
same_int (negsuc a) (negsuc b) = told_by a b (negsuc a) (negsuc b) (ap negsuc) (λ e. cc) (same_number a b)

same_mark : (a b : Bool) → Told a b
same_mark true true = inl refl
same_mark true false = inr (λ e. cc)
same_mark false true = inr (λ e. cc)
same_mark false false = inl refl

both_told : {A B C : Type 0} (a b : A) (c d : B) (x y : C) → Told a b → Told c d → (a ≡ b → c ≡ d → x ≡ y) →
    (x ≡ y → a ≡ b) → (x ≡ y → c ≡ d) → Told x y
both_told a b c d x y (inl e) (inl f) g h k = inl (g e f)
both_told a b c d x y (inl e) (inr f) g h k = inr (λ s. f (k s))
both_told a b c d x y (inr e) t g h k = inr (λ s. e (h s))

same_entry : (e f : Entry) → Told e f
same_entry e f =
    both_told e.rational f.rational e.root f.root e f (same_int e.rational f.rational) (same_int e.root f.root)
    (λ p q i. record { rational = p i; root = q i }) (ap (λ x. x.rational)) (ap (λ x. x.root))

abbrev first_two : Row → Entry × Entry
first_two r = (r.first, r.second)

same_row : (r s : Row) → Told r s
same_row r s =
    both_told (first_two r) (first_two s) r.third s.third r s
    (both_told r.first s.first r.second s.second (first_two r) (first_two s) (same_entry r.first s.first)
    (same_entry r.second s.second) (λ p q i. (p i, q i)) (ap (λ x. x.0)) (ap (λ x. x.1)))
    (same_entry r.third s.third) (λ p q i. record { first = (p i).0; second = (p i).1; third = q i })
    (ap first_two) (ap (λ x. x.third))

abbrev upper : Operation → Row × Row
upper g = (g.row_1, g.row_2)

abbrev lower : Operation → Row × Bool
lower g = (g.row_3, g.primed)

pub same_operation : (g k : Operation) → (g ≡ k) ⊎ (g ≢ k)
same_operation g k =
    both_told (upper g) (upper k) (lower g) (lower k) g k
    (both_told g.row_1 k.row_1 g.row_2 k.row_2 (upper g) (upper k) (same_row g.row_1 k.row_1)
    (same_row g.row_2 k.row_2) (λ p q i. (p i, q i)) (ap (λ x. x.0)) (ap (λ x. x.1)))
    (both_told g.row_3 k.row_3 g.primed k.primed (lower g) (lower k) (same_row g.row_3 k.row_3)
    (same_mark g.primed k.primed) (λ p q i. (p i, q i)) (ap (λ x. x.0)) (ap (λ x. x.1)))
    (λ p q i. record { row_1 = (p i).0; row_2 = (p i).1; row_3 = (q i).0; primed = (q i).1 })
    (ap upper) (ap lower)

-- ---- states
-- an operation of a coset has the coset's first operation in its own
pub coset_sym : (F : Operation → Type 0) → IsGroup F → (g k : Operation) → Times g F k → Times k F g
coset_sym F group g k h =
    let back = group.inverse h.0 h.1 in
    (back.0, back.1, product_assoc_back g h.0 back.0 k g identity h.2 back.2 (times_one g))

module _ (G F : Operation → Type 0) (group : IsGroup F) where
  states_within : (rs ss : List Operation) → AreStates G F rs → AreStates G F ss → (r : Operation) →
      Contains rs r → Contains ss r
  states_within rs ss p q r c =
      let s = q.whole r (each_held G rs p.within r c) in
      elim (same_operation s.0 r) [
        | inl e ↦ subst (λ x. Contains ss x) e s.1
        | inr n ↦ absurd (before_irreflexive s.0 (before_transitive s.0 r s.0
            (each_held (λ r. (k : Operation) → Times r F k → k ≢ r → IsTrue (comes_before r k)) ss q.least s.0 s.1 r
            s.2 (λ e. n (sym e)))
            (each_held (λ r. (k : Operation) → Times r F k → k ≢ r → IsTrue (comes_before r k)) rs p.least r c s.0
            (coset_sym F group s.0 r s.2) n)))
      ]

  pub one_state_list : (rs ss : List Operation) → AreStates G F rs → AreStates G F ss → rs ≡ ss
  one_state_list rs ss p q =
      rising_same comes_before before_irreflexive before_transitive rs ss p.rising q.rising (states_within rs ss p q)
      (states_within ss rs q p)

pub one_states_lem : OneStates
one_states_lem g f h a b p q =
    p.2 ∙ ap (states_text g.symbol f.symbol)
    (one_state_list (InGroup g.symbol) (InGroup f.symbol) (symbol_group f.symbol h) p.0 q.0 p.1 q.1) ∙ sym q.2
