-- Free components in order, and their places.
--   class_open, class_vanishing, class_some    what a table tells of a component
--   free_start, free_passes, free_inserted, places_next    the free components below an end
--   rows_more, free_apart, form_made    rows
use Rattle.list_laws.proofs.Kit.{[], ◌≡◌, ℕ, zero, suc, ◌+◌, ◌-◌, ◌<◌, ◌≤◌, Bool, true, false, List, ◌∷◌, ◌++◌, map, cond, length, get_or, arith, ap, sym}
use Rattle.list_laws.proofs.Kit.{◌∙◌, subst, inl, inr, insert, cases_lt, cases_Bool, length-set, get_or-set_other, get_or-set_at, length-insert}
use Rattle.list_laws.proofs.Kit.{get_or-insert_below, get_or-insert_at, get_or-insert_above, none-some, same_Some}
use Rattle.std.proofs.Common.{set}
use Rattle.std.specs.Prelude.{slice_set, Some, None}
use Rattle.constraint_rows.proofs.GatherLaws.{IsTotalBelow}
use Rattle.tensor_defs.specs.declared.Sign.{Sign}
use Rattle.sign_moves.specs.declared.classes.Entry.{Entry}
use Rattle.sign_moves.specs.Prelude.{entry_at, first_at, sign_at, vanishes_at, AreSettled}
use Rattle.constraint_rows.specs.Classes.{class_at}
use Rattle.reduced_form.specs.declared.forms.Term.{Term}
use Rattle.reduced_form.specs.Forms.{free_at, row_at, row_of, unit_term, IsFreeUpTo, ArePlaces, IsFormOf}

-- ---- what a table tells of a component
pub class_open : (es : List Entry) (c : ℕ) → vanishes_at es c ≡ false → class_at es c ≡ Some (first_at es c, sign_at es c)
class_open es c v = ap (λ b. cond b None (Some (first_at es c, sign_at es c))) v

pub class_vanishing : (es : List Entry) (c : ℕ) → vanishes_at es c ≡ true → class_at es c ≡ None
class_vanishing es c v = ap (λ b. cond b None (Some (first_at es c, sign_at es c))) v

pub class_some : (es : List Entry) (c : ℕ) (x : ℕ × Sign) → class_at es c ≡ Some x →
    (vanishes_at es c ≡ false) × (first_at es c ≡ x.0) × (sign_at es c ≡ x.1)
class_some es c x e = elim (cases_Bool (vanishes_at es c)) as (λ _. (vanishes_at es c ≡ false) × (first_at es c ≡ x.0) × (sign_at es c ≡ x.1)) [
  | inl v ↦ absurd (none-some x (sym (class_vanishing es c v) ∙ e))
  | inr v ↦
      let same = same_Some (first_at es c, sign_at es c) x (sym (class_open es c v) ∙ e) in
      (v, ap (λ p. p.0) same, ap (λ p. p.1) same)
]

-- ---- the free components below an end
pub free_start : (n : ℕ) (before : ℕ → ℕ → Bool) (es : List Entry) → IsFreeUpTo n before es [] 0
free_start n before es = record {
  rising = λ i k h l. absurd (omega arith);
  below = λ k l. absurd (omega arith);
  before_end = λ k l. absurd (omega arith);
  first = λ k l. absurd (omega arith);
  opened = λ k l. absurd (omega arith);
  few = omega arith;
  all = λ c h. absurd (omega arith);
}

-- c isn't the first one of a class that doesn't vanish
pub free_passes : {n : ℕ} {before : ℕ → ℕ → Bool} {es : List Entry} {free : List ℕ} {c : ℕ} → IsFreeUpTo n before es free c → (vanishes_at es c ≡ false → first_at es c ≡ c → ⊥) → IsFreeUpTo n before es free (c + 1)
free_passes {n} {before} {es} {free} {c} h not_first = record {
  rising = h.rising;
  below = h.below;
  before_end = λ k l. let m = h.before_end k l in omega (arith, m);
  first = h.first;
  opened = h.opened;
  few = let m = h.few in omega (arith, m);
  all = λ d l v f. elim (cases_lt d c) as (λ _. (k : ℕ) × (k < length free) × (free_at free k ≡ d)) [
    | inl p ↦ h.all d p v f
    | inr p ↦
        let same : d ≡ c = omega arith in
        absurd (not_first (ap (vanishes_at es) (sym same) ∙ v) (ap (first_at es) (sym same) ∙ f ∙ same))
  ];
}

-- what a place of the longer list has
data Spot (xs : List ℕ) (i y k : ℕ) : Type 0 where
  low : k < i → k < length xs → free_at (insert xs i y) k ≡ free_at xs k → Spot xs i y k
  here : k ≡ i → free_at (insert xs i y) k ≡ y → Spot xs i y k
  high : (m : ℕ) → k ≡ m + 1 → i ≤ m → m < length xs → free_at (insert xs i y) k ≡ free_at xs m → Spot xs i y k

spot : (xs : List ℕ) (i y k : ℕ) → i ≤ length xs → k < length (insert xs i y) → Spot xs i y k
spot xs i y k le h =
    let long : length (insert xs i y) ≡ length xs + 1 = length-insert xs i y le in
    elim (cases_lt k i) as (λ _. Spot xs i y k) [
      | inl p ↦ low p (omega arith) (get_or-insert_below xs i y 0 k p le)
      | inr p ↦ elim (cases_lt i k) as (λ _. Spot xs i y k) [
        | inl q ↦
            let m : k ≡ (k - 1) + 1 = omega arith in
            let at_least : i ≤ k - 1 = omega arith in
            high (k - 1) m at_least (omega (arith, long, h, m)) (ap (free_at (insert xs i y)) m ∙ get_or-insert_above xs i y 0 (k - 1) at_least le)
        | inr q ↦ let same : k ≡ i = omega arith in here same (ap (free_at (insert xs i y)) same ∙ get_or-insert_at xs i y 0 le)
      ]
    ]

module _ {n : ℕ} {before : ℕ → ℕ → Bool} {es : List Entry} {free : List ℕ} {c : ℕ} (h : IsFreeUpTo n before es free c) (below : c < n)
    (open_c : vanishes_at es c ≡ false) (first_c : first_at es c ≡ c) (order : IsTotalBelow n before) (place : ℕ) (within : place ≤ length free)
    (after : (k : ℕ) → place ≤ k → k < length free → before c (free_at free k) ≡ true)
    (stops : (k : ℕ) → k + 1 ≡ place → before c (free_at free k) ≡ false) where
  earlier : (k : ℕ) → k < place → before (free_at free k) c ≡ true
  earlier k l =
      let in_free : k < length free = omega arith in
      let last_in : place - 1 < length free = omega arith in
      let last : place ≡ (place - 1) + 1 = omega arith in
      let small : free_at free (place - 1) < c = h.before_end (place - 1) last_in in
      let at_last : before (free_at free (place - 1)) c ≡ true =
      order.total c (free_at free (place - 1)) below (h.below (place - 1) last_in) (λ e. absurd (omega (arith, e, small))) (stops (place - 1) (sym last)) in
      elim (cases_lt k (place - 1)) as (λ _. before (free_at free k) c ≡ true) [
        | inl p ↦ order.transitive (free_at free k) (free_at free (place - 1)) c (h.rising k (place - 1) p last_in) at_last
        | inr p ↦ let same : k ≡ place - 1 = omega arith in subst (λ x. before (free_at free x) c ≡ true) (sym same) at_last
      ]

  holds : (P : ℕ → Type 0) → P c → ((k : ℕ) → k < length free → P (free_at free k)) → (k : ℕ) → k < length (insert free place c) → P (free_at (insert free place c) k)
  holds P at_c there k l = go (spot free place c k within l)
    where
      go : Spot free place c k → P (free_at (insert free place c) k)
      go (low p q e) = subst P (sym e) (there k q)
      go (here p e) = subst P (sym e) at_c
      go (high m p q i e) = subst P (sym e) (there m i)

  rises : (i k : ℕ) → i < k → Spot free place c i → Spot free place c k → before (free_at (insert free place c) i) (free_at (insert free place c) k) ≡ true
  rises i k l (low p q e) (low p' q' e') = subst (λ x. before x (free_at (insert free place c) k) ≡ true) (sym e) (subst (λ x. before (free_at free i) x ≡ true) (sym e') (h.rising i k l q'))
  rises i k l (low p q e) (here p' e') = subst (λ x. before x (free_at (insert free place c) k) ≡ true) (sym e) (subst (λ x. before (free_at free i) x ≡ true) (sym e') (earlier i p))
  rises i k l (low p q e) (high m p' q' i' e') = subst (λ x. before x (free_at (insert free place c) k) ≡ true) (sym e) (subst (λ x. before (free_at free i) x ≡ true) (sym e') (h.rising i m (omega arith) i'))
  rises i k l (here p e) (low p' q' e') = absurd (omega arith)
  rises i k l (here p e) (here p' e') = absurd (omega arith)
  rises i k l (here p e) (high m p' q' i' e') = subst (λ x. before x (free_at (insert free place c) k) ≡ true) (sym e) (subst (λ x. before c x ≡ true) (sym e') (after m q' i'))
  rises i k l (high m p q j e) (low p' q' e') = absurd (omega arith)
  rises i k l (high m p q j e) (here p' e') = absurd (omega arith)
  rises i k l (high m p q j e) (high m' p' q' j' e') = subst (λ x. before x (free_at (insert free place c) k) ≡ true) (sym e) (subst (λ x. before (free_at free m) x ≡ true) (sym e') (h.rising m m' (omega arith) j'))

  found : (k : ℕ) → k < length free → (x : ℕ) × (x < length (insert free place c)) × (free_at (insert free place c) x ≡ free_at free k)
  found k l =
      let long : length (insert free place c) ≡ length free + 1 = length-insert free place c within in
      elim (cases_lt k place) as (λ _. (x : ℕ) × (x < length (insert free place c)) × (free_at (insert free place c) x ≡ free_at free k)) [
        | inl p ↦ (k, omega arith, get_or-insert_below free place c 0 k p within)
        | inr p ↦ (k + 1, omega arith, get_or-insert_above free place c 0 k p within)
      ]

  pub free_inserted : IsFreeUpTo n before es (insert free place c) (c + 1)
  free_inserted = record {
    rising = λ i k l m. rises i k l (spot free place c i within (omega arith)) (spot free place c k within m);
    below = holds (λ x. x < n) below h.below;
    before_end = holds (λ x. x < c + 1) (omega arith) (λ k l. let m = h.before_end k l in omega (arith, m));
    first = holds (λ x. first_at es x ≡ x) first_c h.first;
    opened = holds (λ x. vanishes_at es x ≡ false) open_c h.opened;
    few = let m = h.few in let long : length (insert free place c) ≡ length free + 1 = length-insert free place c within in omega (arith, m, long);
    all = λ d l v f. elim (cases_lt d c) as (λ _. (k : ℕ) × (k < length (insert free place c)) × (free_at (insert free place c) k ≡ d)) [
      | inl p ↦
          let old = h.all d p v f in
          let new = found old.0 old.1 in
          (new.0, new.1, new.2 ∙ old.2)
      | inr p ↦
          let same : c ≡ d = omega arith in
          let long : length (insert free place c) ≡ length free + 1 = length-insert free place c within in
          (place, omega arith, get_or-insert_at free place c 0 within ∙ same)
    ];
  }

pub places_next : {n : ℕ} {free places : List ℕ} {k : ℕ} → ArePlaces n free places k → ((i k : ℕ) → i < length free → k < length free → free_at free i ≡ free_at free k → i ≡ k) → k < length free → (i x : ℕ) → i ≡ free_at free k → i < n → x ≡ k → ArePlaces n free (slice_set places i x) (k + 1)
places_next {n} {free} {places} {k} h apart l i x at inside is =
    let within : i < length places = rw h.len inside in
    record {
      len = length-set places i x ∙ h.len;
      place = λ m q. elim (cases_lt m k) as (λ _. get_or (set places i x) (free_at free m) 0 ≡ m) [
        | inl p ↦ get_or-set_other places i (free_at free m) x 0 (λ e. let same : m ≡ k = apart m k (omega arith) l (e ∙ at) in absurd (omega (arith, same, p))) ∙ h.place m p
        | inr p ↦
            let same : m ≡ k = omega arith in
            get_or-set_at places i (free_at free m) x 0 (ap (free_at free) same ∙ sym at) within ∙ is ∙ sym same
      ];
    }

-- ---- rows
pub rows_more : {X : Type 0} (f : X → List Term) (xs : List X) (y : X) (Q : ℕ → List Term) → ((k : ℕ) → k < length xs → row_at (map f xs) k ≡ Q k) → f y ≡ Q (length xs) → (k : ℕ) → k < length xs + 1 → row_at (map f (xs ++ y ∷ [])) k ≡ Q k
rows_more f [] y Q h e zero l = e
rows_more f [] y Q h e (suc k) l = absurd (omega arith)
rows_more f (x ∷ xs) y Q h e zero l = h 0 (omega arith)
rows_more f (x ∷ xs) y Q h e (suc k) l = rows_more f xs y (λ i. Q (suc i)) (λ i m. h (suc i) (omega arith)) e k (omega arith)

pub free_apart : {n : ℕ} {before : ℕ → ℕ → Bool} {es : List Entry} {free : List ℕ} {end : ℕ} → ((x : ℕ) → before x x ≡ true → ⊥) →
    IsFreeUpTo n before es free end → (i k : ℕ) → i < length free → k < length free → free_at free i ≡ free_at free k → i ≡ k
free_apart {n} {before} {es} {free} apart h i k l m e = elim (cases_lt i k) as (λ _. i ≡ k) [
  | inl p ↦ absurd (apart (free_at free k) (subst (λ x. before x (free_at free k) ≡ true) e (h.rising i k p m)))
  | inr p ↦ elim (cases_lt k i) as (λ _. i ≡ k) [
    | inl q ↦ absurd (apart (free_at free k) (subst (λ x. before (free_at free k) x ≡ true) e (h.rising k i q l)))
    | inr q ↦ omega arith
  ]
]

pub form_made : {n : ℕ} {before : ℕ → ℕ → Bool} {es : List Entry} {free places : List ℕ} {rows : List (List Term)} → AreSettled n es → IsFreeUpTo n before es free n → ArePlaces n free places (length free) → ((c : ℕ) → c < n → row_at rows c ≡ row_of (entry_at es c) places) → IsFormOf n before es (record { free = free; rows = rows })
form_made {n} {before} {es} {free} {places} {rows} s h p each = record {
  rising = h.rising;
  only_below = h.below;
  only_first = h.first;
  only_open = h.opened;
  none = λ c l v. each c l ∙ ap (λ b. cond b [] (unit_term (get_or places (first_at es c) 0) (sign_at es c) ∷ [])) v;
  one = λ c l v.
      let at = h.all (first_at es c) (s.below c l) (s.together c l ∙ v) (s.own c l) in
      let place : get_or places (first_at es c) 0 ≡ at.0 = ap (λ d. get_or places d 0) (sym at.2) ∙ p.place at.0 at.1 in
      (at.0, at.1, at.2, each c l ∙ ap (λ b. cond b [] (unit_term (get_or places (first_at es c) 0) (sign_at es c) ∷ [])) v ∙ ap (λ k. unit_term k (sign_at es c) ∷ []) place);
}
