-- Parts of rows, with a number added at a component.
--   added_new, added_old, before_front, counted_kept    by the place of the component
--   IsTotalBelow, order_total    a strict order that is total below n
--   whole-add, part_is, row_at-added    what the parts have at a component
--   IsGathering, class_part, term_part, terms_sum, gathering, row_at-gathered, gathered-append
--       parts gathered from terms
--   gathered_small, gathered_more, nothing_and    parts gathered from some of the terms
use Rattle.list_laws.proofs.Kit.{[], ◌≡◌, ◌≢◌, ℕ, zero, suc, ◌+◌, ◌%◌, ◌^◌, ◌<◌, ◌≤◌, Bool, true, false, cond, List, ◌∷◌, ◌++◌, length, get_or, take, drop}
use Rattle.list_laws.proofs.Kit.{refl, ap, sym, ◌∙◌, arith, subst, inl, inr, eqb-true, ne_eqb, both_ways, set_split, take_more, length-take-le, ints}
use Rattle.list_laws.proofs.Members.{each_at, each_map, each_take}
use Rattle.std.proofs.Common.{eq-eqb}
use Rattle.std.specs.Prelude.{IsTrue, insert, nat_eq, unsigned_abs, Option, Some, None}
use Rattle.std.proofs.Math.ListN.{set}
use lib.IntN.{ℤ, pos, negsuc, ◌+ℤ◌, ◌*ℤ◌}
use Rattle.number_laws.proofs.NumberLaws.{num_zero-add, num_add_left_comm, num_add_assoc}
use Rattle.tensor_defs.specs.Prelude.{mul-one_ℤ, Each, IsRising, Number, add, num_zero, whole, same_numbers, component_number, index_of}
use Rattle.tensor_defs.specs.declared.Sign.{Sign}
use Rattle.tensor_defs.specs.declared.Sign.TheVariants.{Plus, Minus}
use Rattle.tensor_laws.proofs.ComponentNumbers.{length-index_of, number-index_of}
use Rattle.tensor_rank.specs.Prelude.{Ordering, before_at, orders_are_orders, orders_strict}
use Rattle.sign_moves.specs.declared.classes.Entry.{Entry}
use Rattle.sign_moves.specs.Signs.{times}
use Rattle.constraint_rows.specs.Classes.{class_at}
use Rattle.constraint_rows.specs.Gathering.{AreSmallParts, AreTermsBelow, IsPlaceFor, added, added_here, class_added, counted_at, gathered, is_nothing, part, part_at_place, term_added, turn_sign, unit, with_front}
use Rattle.constraint_rows.specs.WordRows.{AreParts, AreSound, IsOwn, part_at, parts_rise, row_at}
use Rattle.constraint_rows.specs.declared.rows.Part.{Part}
use Rattle.constraint_rows.specs.declared.words.Term.{Term}

-- ---- by the place of the component
module _ (before : ℕ → ℕ → Bool) (d : ℕ) (k : ℤ) where
  added_new_at : (ps : List Part) (i : ℕ) → i ≤ length ps → ((n : ℕ) → n < i → before (part_at_place ps n).component d ≡ true) →
      (i < length ps → before (part_at_place ps i).component d ≡ false) → (i < length ps → (part_at_place ps i).component ≢ d) →
      added before d k ps ≡ insert ps i (part d k)
  added_new_at [] zero small all stop other = refl
  added_new_at [] (suc i) small all stop other = absurd (omega arith)
  added_new_at (p ∷ ps) zero small all stop other =
      ap (λ b. cond b (p ∷ added before d k ps) (added_here d k p ps)) (stop (omega arith))
      ∙ ap (λ b. cond b (with_front d (p.number +ℤ k) ps) (part d k ∷ p ∷ ps)) (ne_eqb p.component d (other (omega arith)))
  added_new_at (p ∷ ps) (suc i) small all stop other =
      ap (λ b. cond b (p ∷ added before d k ps) (added_here d k p ps)) (all 0 (omega arith))
      ∙ ap (λ qs. p ∷ qs) (added_new_at ps i (omega arith) (λ n h. all (suc n) (omega arith)) (λ h. stop (omega arith)) (λ h. other (omega arith)))

  added_old_at : (ps : List Part) (i : ℕ) → i < length ps → ((n : ℕ) → n < i → before (part_at_place ps n).component d ≡ true) →
      (i < length ps → before (part_at_place ps i).component d ≡ false) → (part_at_place ps i).component ≡ d →
      added before d k ps ≡ counted_at ps i k
  added_old_at [] i small all stop same = absurd (omega arith)
  added_old_at (p ∷ ps) zero small all stop same =
      ap (λ b. cond b (p ∷ added before d k ps) (added_here d k p ps)) (stop small)
      ∙ ap (λ b. cond b (with_front d (p.number +ℤ k) ps) (part d k ∷ p ∷ ps)) (eq-eqb p.component d same)
      ∙ ap (λ c. with_front c (p.number +ℤ k) ps) (sym same)
  added_old_at (p ∷ ps) (suc i) small all stop same =
      ap (λ b. cond b (p ∷ added before d k ps) (added_here d k p ps)) (all 0 (omega arith))
      ∙ ap (λ qs. p ∷ qs) (added_old_at ps i (omega arith) (λ n h. all (suc n) (omega arith)) (λ h. stop (omega arith)) same)

  pub added_new : (ps : List Part) (i : ℕ) → IsPlaceFor before d ps i → (i < length ps → (part_at_place ps i).component ≢ d) →
      added before d k ps ≡ insert ps i (part d k)
  added_new ps i h other = added_new_at ps i h.within h.all h.stop other

  pub added_old : (ps : List Part) (i : ℕ) → IsPlaceFor before d ps i → i < length ps → (part_at_place ps i).component ≡ d →
      added before d k ps ≡ counted_at ps i k
  added_old ps i h small same = added_old_at ps i small h.all h.stop same

-- what lies before a part that comes before a component comes before it too
pub before_front : (before : ℕ → ℕ → Bool) → ((a b c : ℕ) → before a b ≡ true → before b c ≡ true → before a c ≡ true) → (d : ℕ) (ps : List Part) →
    IsRising (parts_rise before) ps → (i : ℕ) → i < length ps → before (part_at_place ps i).component d ≡ true →
    (k : ℕ) → k ≤ i → before (part_at_place ps k).component d ≡ true
before_front before passes d [] r i h hit k l = absurd (omega arith)
before_front before passes d (p ∷ ps) r zero h hit zero l = hit
before_front before passes d (p ∷ ps) r zero h hit (suc k) l = absurd (omega arith)
before_front before passes d (p ∷ ps) r (suc i) h hit zero l =
    passes p.component (part_at_place ps i).component d
    (each_at (λ q. IsTrue (before p.component q.component)) ps r.0 i (part 0 (pos 0)) (omega arith)) hit
before_front before passes d (p ∷ ps) r (suc i) h hit (suc k) l = before_front before passes d ps r.1 i (omega arith) hit k (omega arith)

pub counted_kept : (ps : List Part) (i : ℕ) (p : Part) (z k : ℤ) → i < length ps → p ≡ part_at_place ps i → z ≡ p.number +ℤ k → z ≢ pos 0 →
    set ps i (part p.component z) ≡ counted_at ps i k
counted_kept ps i p z k h at is other =
    let q : Part = part_at_place ps i in
    let sum : z ≡ q.number +ℤ k = is ∙ ap (λ x. x.number +ℤ k) at in
    set_split ps i (part p.component z) h
    ∙ (λ n. take i ps ++ part (at n).component (sum n) ∷ drop (suc i) ps)
    ∙ sym (ap (λ b. take i ps ++ cond b (drop (suc i) ps) (part q.component (q.number +ℤ k) ∷ drop (suc i) ps)) (some (q.number +ℤ k) (λ e. other (sum ∙ e))))
  where
    some : (x : ℤ) → x ≢ pos 0 → is_nothing x ≡ false
    some (pos n) m = ne_eqb n 0 (λ e. m (ap pos e))
    some (negsuc n) m = refl

-- ---- what holds of each part
module _ (before : ℕ → ℕ → Bool) (d : ℕ) (k : ℤ) where
  each_changed : (P Q : Part → Type 0) → ((p : Part) → P p → Q p) → Q (part d k) →
      ((p : Part) → P p → p.component ≡ d → is_nothing (p.number +ℤ k) ≡ false → Q (part d (p.number +ℤ k))) →
      (ps : List Part) → Each P ps → Each Q (added before d k ps)
  each_changed P Q kept new changed [] e = (new, tt)
  each_changed P Q kept new changed (p ∷ ps) e = by_order (each_changed P Q kept new changed ps e.1) (before p.component d)
    where
      rest : Each Q ps
      rest = each_map P Q kept ps e.1

      by_zero : p.component ≡ d → (z : Bool) → is_nothing (p.number +ℤ k) ≡ z → Each Q (cond z ps (part d (p.number +ℤ k) ∷ ps))
      by_zero same true h = rest
      by_zero same false h = (changed p e.0 same h, rest)

      by_same : (b : Bool) → nat_eq p.component d ≡ b → Each Q (cond b (with_front d (p.number +ℤ k) ps) (part d k ∷ p ∷ ps))
      by_same true h = by_zero (eqb-true p.component d h) (is_nothing (p.number +ℤ k)) refl
      by_same false h = (new, (kept p e.0, rest))

      by_order : Each Q (added before d k ps) → (b : Bool) → Each Q (cond b (p ∷ added before d k ps) (added_here d k p ps))
      by_order more true = (kept p e.0, more)
      by_order more false = by_same (nat_eq p.component d) refl

  each_added : (P : Part → Type 0) → P (part d k) →
      ((p : Part) → P p → p.component ≡ d → is_nothing (p.number +ℤ k) ≡ false → P (part d (p.number +ℤ k))) →
      (ps : List Part) → Each P ps → Each P (added before d k ps)
  each_added P new changed = each_changed P P (λ p h. h) new changed

-- ---- a strict order that is total below n
pub record IsTotalBelow (n : ℕ) (before : ℕ → ℕ → Bool) : Type 0 where
  pub apart : (a : ℕ) → before a a ≡ true → ⊥
  pub transitive : (a b c : ℕ) → before a b ≡ true → before b c ≡ true → before a c ≡ true
  pub total : (a b : ℕ) → a < n → b < n → a ≢ b → before a b ≡ false → before b a ≡ true

module _ (n : ℕ) (before : ℕ → ℕ → Bool) (order : IsTotalBelow n before) (d : ℕ) (small : d < n) (k : ℤ) where
  rising_added : (ps : List Part) → AreParts n ps → IsRising (parts_rise before) ps → IsRising (parts_rise before) (added before d k ps)
  rising_added [] a r = (tt, tt)
  rising_added (p ∷ ps) a r = by_order (rising_added ps a.1 r.1) (before p.component d) refl
    where
      by_zero : p.component ≡ d → (z : Bool) → IsRising (parts_rise before) (cond z ps (part d (p.number +ℤ k) ∷ ps))
      by_zero same true = r.1
      by_zero same false = (subst (λ c. Each (λ q. IsTrue (before c q.component)) ps) same r.0, r.1)

      by_same : before p.component d ≡ false → (b : Bool) → nat_eq p.component d ≡ b →
          IsRising (parts_rise before) (cond b (with_front d (p.number +ℤ k) ps) (part d k ∷ p ∷ ps))
      by_same off true h = by_zero (eqb-true p.component d h) (is_nothing (p.number +ℤ k))
      by_same off false h =
          let apart : p.component ≢ d = λ e. both_ways (nat_eq p.component d) h (eq-eqb p.component d e) in
          let ahead : before d p.component ≡ true = order.total p.component d a.0.0 small apart off in (
            (
              ahead,
              each_map (λ q. IsTrue (before p.component q.component)) (λ q. IsTrue (before d q.component))
                  (λ q m. order.transitive d p.component q.component ahead m) ps r.0,
            ),
            r,
          )

      by_order : IsRising (parts_rise before) (added before d k ps) → (b : Bool) → before p.component d ≡ b →
          IsRising (parts_rise before) (cond b (p ∷ added before d k ps) (added_here d k p ps))
      by_order more true h =
          (each_added before d k (λ q. IsTrue (before p.component q.component)) h (λ q m same nz. h) ps r.0, more)
      by_order more false h = by_same h (nat_eq p.component d) refl

-- orders of components are such orders
pub order_total : (n r : ℕ) → n ≡ 3 ^ r → (o : Ordering) → IsTotalBelow n (before_at r o)
order_total n r size o = record {
  apart = λ a. (orders_are_orders r o).irreflexive (index_of r a);
  transitive = (orders_strict r o).transitive;
  total = λ a b h l apart off.
      let a_is : component_number (index_of r a) ≡ a = number-index_of r a (subst (λ m. a < m) size h) in
      let b_is : component_number (index_of r b) ≡ b = number-index_of r b (subst (λ m. b < m) size l) in
      elim ((orders_are_orders r o).total (index_of r a) (index_of r b) (length-index_of r a) (length-index_of r b)
      (λ e. apart (sym a_is ∙ ap component_number e ∙ b_is))) as (λ _. before_at r o b a ≡ true) [
        | inl t ↦ (let f : true ≡ false = sym t ∙ off in cc)
        | inr t ↦ t
      ];
}

-- ---- what the parts have at a component
pub whole-add : (a b : ℤ) → add (whole a) (whole b) ≡ whole (a +ℤ b)
unfolding add whole
whole-add a b = same_numbers _ _ (record { same_p = first a b; same_q = refl })
  where
    first : (a b : ℤ) → ((a *ℤ pos 1) +ℤ (b *ℤ pos 1)) *ℤ pos 1 ≡ (a +ℤ b) *ℤ pos 1
    first a b = simp mul-one_ℤ

nothing_is : (z : ℤ) → is_nothing z ≡ true → z ≡ pos 0
nothing_is (pos n) h = ap pos (eqb-true n 0 h)
nothing_is (negsuc n) h = cc

pub part_is : (p : Part) (c : ℕ) → part_at p c ≡ cond (nat_eq c p.component) (whole p.number) num_zero
unfolding part_at
part_is p c = refl

part_sum : (d c : ℕ) (a b : ℤ) → add (part_at (part d a) c) (part_at (part d b) c) ≡ part_at (part d (b +ℤ a)) c
unfolding part_at
part_sum d c a b = by (nat_eq c d)
  where
    swap : (a b : ℤ) → a +ℤ b ≡ b +ℤ a
    swap a b = omega (arith, ints)

    by : (t : Bool) → add (cond t (whole a) num_zero) (cond t (whole b) num_zero) ≡ cond t (whole (b +ℤ a)) num_zero
    by true = whole-add a b ∙ ap whole (swap a b)
    by false = num_zero-add num_zero

nothing_part : (d c : ℕ) (z : ℤ) → z ≡ pos 0 → part_at (part d z) c ≡ num_zero
unfolding part_at
nothing_part d c z h = by (nat_eq c d)
  where
    by : (t : Bool) → cond t (whole z) num_zero ≡ num_zero
    by true = ap whole h
    by false = refl

module _ (before : ℕ → ℕ → Bool) (d : ℕ) (k : ℤ) (c : ℕ) where
  pub row_at-added : (ps : List Part) → row_at (added before d k ps) c ≡ add (part_at (part d k) c) (row_at ps c)
  row_at-added [] = refl
  row_at-added (p ∷ ps) = by_order (row_at-added ps) (before p.component d)
    where
      goes : Number
      goes = add (part_at (part d k) c) (add (part_at p c) (row_at ps c))

      joined : p.component ≡ d → add (part_at (part d (p.number +ℤ k)) c) (row_at ps c) ≡ goes
      joined same =
          ap (λ x. add x (row_at ps c)) (sym (part_sum d c k p.number)
          ∙ ap (λ e. add (part_at (part d k) c) (part_at (part e p.number) c)) (sym same))
          ∙ num_add_assoc (part_at (part d k) c) (part_at p c) (row_at ps c)

      by_zero : p.component ≡ d → (z : Bool) → is_nothing (p.number +ℤ k) ≡ z → row_at (cond z ps (part d (p.number +ℤ k) ∷ ps)) c ≡ goes
      by_zero same true h =
          sym (num_zero-add (row_at ps c))
          ∙ ap (λ x. add x (row_at ps c)) (sym (nothing_part d c (p.number +ℤ k) (nothing_is (p.number +ℤ k) h))) ∙ joined same
      by_zero same false h = joined same

      by_same : (b : Bool) → nat_eq p.component d ≡ b → row_at (cond b (with_front d (p.number +ℤ k) ps) (part d k ∷ p ∷ ps)) c ≡ goes
      by_same true h = by_zero (eqb-true p.component d h) (is_nothing (p.number +ℤ k)) refl
      by_same false h = refl

      by_order : row_at (added before d k ps) c ≡ add (part_at (part d k) c) (row_at ps c) → (b : Bool) →
          row_at (cond b (p ∷ added before d k ps) (added_here d k p ps)) c ≡ goes
      by_order more true = ap (add (part_at p c)) more ∙ num_add_left_comm (part_at p c) (part_at (part d k) c) (row_at ps c)
      by_order more false = by_same (nat_eq p.component d) refl

-- ---- parts gathered from terms
unit_small : (s : Sign) → unsigned_abs (unit s) ≤ 1
unit_small Plus = omega arith
unit_small Minus = omega arith

unit_not_nothing : (s : Sign) → unit s ≢ pos 0
unit_not_nothing Plus e = cc
unit_not_nothing Minus e = cc

not_nothing : (z : ℤ) → is_nothing z ≡ false → z ≢ pos 0
not_nothing z h e = let t : true ≡ false = ap is_nothing (sym e) ∙ h in cc

abs_more : (z : ℤ) (s : Sign) (k : ℕ) → unsigned_abs z ≤ k → unsigned_abs (z +ℤ unit s) ≤ k + 1
abs_more z Plus k h = omega (arith, ints)
abs_more z Minus k h = omega (arith, ints)

pub record IsGathering (n : ℕ) (before : ℕ → ℕ → Bool) (es : List Entry) (k : ℕ) (ps : List Part) : Type 0 where
  pub parts : AreParts n ps
  pub rising : IsRising (parts_rise before) ps
  pub own : Each (λ p. IsOwn es p.component) ps
  pub small : Each (λ p. unsigned_abs p.number ≤ k) ps

-- what a term gives to a component
abbrev pub class_part : Option (ℕ × Sign) → Sign → ℕ → Number
class_part None s c = num_zero
class_part (Some x) s c = part_at (part x.0 (unit (times x.1 s))) c

abbrev pub term_part : List Entry → ℕ → ℕ → ℕ → ℕ → Number
term_part es b c n q = cond (nat_eq (q % 2) b) (class_part (class_at es n) (turn_sign q) c) num_zero

abbrev pub terms_sum : (ℕ → ℕ → Number) → List Term → Number
terms_sum G [] = num_zero
terms_sum G (t ∷ ts) = add (G t.component t.quarters) (terms_sum G ts)

module _ (n : ℕ) (before : ℕ → ℕ → Bool) (order : IsTotalBelow n before) (es : List Entry) (sound : AreSound n before es) (b : ℕ) where
  weaker : (k : ℕ) (ps : List Part) → IsGathering n before es k ps → IsGathering n before es (k + 1) ps
  weaker k ps h = record {
    parts = h.parts;
    rising = h.rising;
    own = h.own;
    small = each_map (λ p. unsigned_abs p.number ≤ k) (λ p. unsigned_abs p.number ≤ k + 1) (λ p l. omega arith) ps h.small;
  }

  class_gathering : (k : ℕ) (ps : List Part) → IsGathering n before es k ps → (c : ℕ) → c < n → (s : Sign) →
      (o : Option (ℕ × Sign)) → class_at es c ≡ o → IsGathering n before es (k + 1) (class_added before o s ps)
  class_gathering k ps h c l s None e = weaker k ps h
  class_gathering k ps h c l s (Some x) e =
      let u = unit (times x.1 s) in
      let small : x.0 < n = sound.below c x.0 x.1 l e in
      let own : IsOwn es x.0 = sound.own c x.0 x.1 l e in
      record {
        parts = each_added before x.0 u (λ p. (p.component < n) × (p.number ≢ pos 0)) (small, unit_not_nothing (times x.1 s))
            (λ p q same nz. (small, not_nothing (p.number +ℤ u) nz)) ps h.parts;
        rising = rising_added n before order x.0 small u ps h.parts h.rising;
        own = each_added before x.0 u (λ p. IsOwn es p.component) own (λ p q same nz. own) ps h.own;
        small = each_changed before x.0 u (λ p. unsigned_abs p.number ≤ k) (λ p. unsigned_abs p.number ≤ k + 1)
            (λ p q. omega arith)
            (let one : unsigned_abs (unit (times x.1 s)) ≤ 1 = unit_small (times x.1 s) in omega (arith, one))
            (λ p q same nz. abs_more p.number (times x.1 s) k q) ps h.small;
      }

  term_gathering : (k : ℕ) (ps : List Part) → IsGathering n before es k ps → (t : Term) → t.component < n →
      IsGathering n before es (k + 1) (term_added before es b t ps)
  term_gathering k ps h t l = by (nat_eq (t.quarters % 2) b)
    where
      by : (c : Bool) → IsGathering n before es (k + 1) (cond c (class_added before (class_at es t.component) (turn_sign t.quarters) ps) ps)
      by true = class_gathering k ps h t.component l (turn_sign t.quarters) (class_at es t.component) refl
      by false = weaker k ps h

  pub gathering : (ts : List Term) → Each (λ t. t.component < n) ts → (k : ℕ) (ps : List Part) → IsGathering n before es k ps →
      IsGathering n before es (k + length ts) (gathered before es b ts ps)
  gathering [] e k ps h = subst (λ m. IsGathering n before es m ps) (omega arith) h
  gathering (t ∷ ts) e k ps h =
      let rest = gathering ts e.1 (k + 1) (term_added before es b t ps) (term_gathering k ps h t e.0) in
      let more : k + 1 + length ts ≡ k + suc (length ts) = omega arith in
      subst (λ m. IsGathering n before es m (gathered before es b (t ∷ ts) ps)) more rest

module _ (before : ℕ → ℕ → Bool) (es : List Entry) (b c : ℕ) where
  row_at_class : (o : Option (ℕ × Sign)) (s : Sign) (ps : List Part) →
      row_at (class_added before o s ps) c ≡ add (class_part o s c) (row_at ps c)
  row_at_class None s ps = sym (num_zero-add (row_at ps c))
  row_at_class (Some x) s ps = row_at-added before x.0 (unit (times x.1 s)) c ps

  row_at_term : (t : Term) (ps : List Part) →
      row_at (term_added before es b t ps) c ≡ add (term_part es b c t.component t.quarters) (row_at ps c)
  row_at_term t ps = by (nat_eq (t.quarters % 2) b)
    where
      by : (z : Bool) → row_at (cond z (class_added before (class_at es t.component) (turn_sign t.quarters) ps) ps) c
          ≡ add (cond z (class_part (class_at es t.component) (turn_sign t.quarters) c) num_zero) (row_at ps c)
      by true = row_at_class (class_at es t.component) (turn_sign t.quarters) ps
      by false = sym (num_zero-add (row_at ps c))

  pub row_at-gathered : (ts : List Term) (ps : List Part) →
      row_at (gathered before es b ts ps) c ≡ add (terms_sum (term_part es b c) ts) (row_at ps c)
  row_at-gathered [] ps = sym (num_zero-add (row_at ps c))
  row_at-gathered (t ∷ ts) ps =
      row_at-gathered ts (term_added before es b t ps)
      ∙ ap (add (terms_sum (term_part es b c) ts)) (row_at_term t ps)
      ∙ num_add_left_comm (terms_sum (term_part es b c) ts) (term_part es b c t.component t.quarters) (row_at ps c)
      ∙ sym (num_add_assoc (term_part es b c t.component t.quarters) (terms_sum (term_part es b c) ts) (row_at ps c))

pub gathered-append : (before : ℕ → ℕ → Bool) (es : List Entry) (b : ℕ) (ts us : List Term) (ps : List Part) →
    gathered before es b (ts ++ us) ps ≡ gathered before es b us (gathered before es b ts ps)
gathered-append before es b [] us ps = refl
gathered-append before es b (t ∷ ts) us ps = gathered-append before es b ts us (term_added before es b t ps)

-- ---- parts gathered from some of the terms
pub gathered_small : (n r : ℕ) → n ≡ 3 ^ r → (o : Ordering) (es : List Entry) → AreSound n (before_at r o) es → (b : ℕ) (ts : List Term) →
    AreTermsBelow n ts → length ts ≤ 729 → (k : ℕ) → k ≤ length ts → AreSmallParts n (before_at r o) 729 (gathered (before_at r o) es b (take k ts) [])
gathered_small n r size o es sound b ts below few k h =
    let g = gathering n (before_at r o) (order_total n r size o) es sound b (take k ts)
    (each_take (λ t. t.component < n) ts k below.each) 0 [] (record { parts = tt; rising = tt; own = tt; small = tt }) in
    let l : length (take k ts) ≡ k = length-take-le k ts h in
    record {
      parts = g.parts;
      rising = g.rising;
      small = each_map (λ p. unsigned_abs p.number ≤ 0 + length (take k ts)) (λ p. unsigned_abs p.number ≤ 729) (λ p m. omega arith)
          (gathered (before_at r o) es b (take k ts) []) g.small;
    }

pub gathered_more : (before : ℕ → ℕ → Bool) (es : List Entry) (b : ℕ) (ts : List Term) (k : ℕ) (d : Term) → k < length ts →
    term_added before es b (get_or ts k d) (gathered before es b (take k ts) []) ≡ gathered before es b (take (k + 1) ts) []
gathered_more before es b ts k d h =
    sym (gathered-append before es b (take k ts) (get_or ts k d ∷ []) []) ∙ ap (λ us. gathered before es b us []) (sym (take_more ts k d h))

pub nothing_and : (s : Sign) → pos 0 +ℤ unit s ≡ unit s
nothing_and Plus = refl
nothing_and Minus = refl
