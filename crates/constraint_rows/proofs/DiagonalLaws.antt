-- What a diagonal operation does to a component.
--   diagonal_plain    a diagonal operation is plain
--   own_coefficient, turns_by, not_turns_by    it carries each component to itself
--   own_carried, killed_along    an exchange of blocks leaves the coefficient from a component to itself
--   entry_more    a fact of the entries at a push
--   diagonals_skip, diagonals_more, diagonal_columns, told_lower, turned_marked    the diagonal elements by their rows
use Rattle.std.proofs.Common.{◌≡◌, ◌≢◌, ℕ, ◌+◌, ◌<◌, ◌^◌, ◌⊎◌, Bool, true, false, List, [], ◌∷◌, ◌++◌, length, length-append, get_or, refl, ap, sym, ◌∙◌, arith, subst, inl, inr}
use Rattle.std.proofs.lemmas.Bool.{cases_lt}
use Rattle.tensor_laws.proofs.Indices.{axis_cases}
use Rattle.std.proofs.lemmas.List.{get_or_append_left, get_or_default, get_or_push}
use Rattle.number_laws.proofs.Sameness.{one_not_zero}
use Rattle.number_laws.proofs.NumberLaws.{num_one-mul, num_mul_assoc, num_mul_comm, num_mul_left_comm}
use Rattle.tensor_defs.specs.Prelude.{IsDiagonal, IsPlain, IsUnit, OneUnit, Bracket, IsExchange, JahnSymbol, Number, mul, num_zero, num_one, Axis, x1}
use Rattle.tensor_defs.specs.Prelude.{x2, x3, Operation, entry, nought, value, identity, Index, Marks, axis_place, axis_at, coefficient, index_of, sign}
use Rattle.std.specs.Prelude.{Contains, ◌↔◌}
use Rattle.tensor_defs.specs.declared.Sign.{Sign}
use Rattle.tensor_defs.specs.declared.Sign.TheVariants.{Plus, Minus}
use Rattle.magnetic_groups.specs.Sets.{In}
use Rattle.sign_moves.specs.declared.classes.Entry.{Entry}
use Rattle.sign_moves.specs.Prelude.{entry_at, first_at, vanishes_at, AreSettled, signed}
use Rattle.sign_moves.proofs.SignLaws.{own_negative, sign_not_zero, signed-signed}
use Rattle.tensor_rank.specs.Carried.{Carried, rests, steps}
use Rattle.constraint_rows.specs.declared.ops.PlainOp.{PlainOp}
use Rattle.constraint_rows.specs.Prelude.{GroupStep, exchange, turn, AreDiagonals, IsMarked, IsTurned, IsTurnedEntry, Turns, AllHaveColumns, StandsFor}
use Rattle.constraint_rows.specs.Prelude.{image, op_at, op_sign, IsKilled}
use Rattle.constraint_rows.proofs.OpIndex.{moved, coefficient_own, list_signs, sign_number, signed_mul}
use Rattle.constraint_rows.proofs.StandLaws.{zero_number}

-- ---- a diagonal operation is plain
module _ (g : Operation) (d : IsDiagonal g) where
  own_unit : (i : Axis) → IsUnit (entry g i i)
  own_unit i = elim (d i i) as (λ _. IsUnit (entry g i i)) [ inl p ↦ p.1 | inr p ↦ absurd (p.0 refl) ]

  off_zero : (i j : Axis) → i ≢ j → entry g i j ≡ nought
  off_zero i j n = elim (d i j) as (λ _. entry g i j ≡ nought) [ inl p ↦ absurd (n p.0) | inr p ↦ p.1 ]

  pub diagonal_plain : IsPlain g
  diagonal_plain = record { rows = rows; columns = columns }
    where
      rows : (i : Axis) → OneUnit (entry g i x1) (entry g i x2) (entry g i x3)
      rows x1 = inl (own_unit x1, off_zero x1 x2 (λ e. cc), off_zero x1 x3 (λ e. cc))
      rows x2 = inr (inl (off_zero x2 x1 (λ e. cc), own_unit x2, off_zero x2 x3 (λ e. cc)))
      rows x3 = inr (inr (off_zero x3 x1 (λ e. cc), off_zero x3 x2 (λ e. cc), own_unit x3))

      columns : (j : Axis) → OneUnit (entry g x1 j) (entry g x2 j) (entry g x3 j)
      columns x1 = inl (own_unit x1, off_zero x2 x1 (λ e. cc), off_zero x3 x1 (λ e. cc))
      columns x2 = inr (inl (off_zero x1 x2 (λ e. cc), own_unit x2, off_zero x3 x2 (λ e. cc)))
      columns x3 = inr (inr (off_zero x1 x3 (λ e. cc), off_zero x2 x3 (λ e. cc), own_unit x3))

-- ---- it carries each component to itself
module _ {m : Marks} {g : Operation} {p : PlainOp} (d : IsDiagonal g) (h : StandsFor m g p) where
  off_value : (i j : Axis) → i ≢ j → value g i j ≡ num_zero
  unfolding value
  off_value i j n = zero_number (entry g i j) (off_zero g d i j n)

  own_column : (i : Axis) → axis_at (image p (axis_place i)) ≡ i
  own_column i = elim (axis_cases i (axis_at (image p (axis_place i)))) [
    | inl e ↦ sym e
    | inr n ↦ absurd (sign_not_zero _ (sym (h.entry i) ∙ off_value i (axis_at (image p (axis_place i))) n))
  ]

  own_moved : (is : Index) → moved p is ≡ is
  own_moved [] = refl
  own_moved (i ∷ is) = λ n. own_column i n ∷ own_moved is n

  pub own_coefficient : (r c : ℕ) → c < 3 ^ r → mul (sign m g) (coefficient g (index_of r c) (index_of r c)) ≡ signed (op_sign r p c) num_one
  own_coefficient r c l =
      (λ n. mul (h.whole n) ((ap (coefficient g (index_of r c)) (sym (own_moved (index_of r c))) ∙ coefficient_own h (index_of r c)) n))
      ∙ signed_mul p.whole (signed (list_signs p (index_of r c)) num_one)
      ∙ signed-signed p.whole (list_signs p (index_of r c)) num_one
      ∙ ap (λ s. signed s num_one) (sign_number h r c l)

pub turns_by : {m : Marks} {g : Operation} {p : PlainOp} → IsDiagonal g → StandsFor m g p → (n r c : ℕ) → n ≡ 3 ^ r → c < n →
    op_sign r p c ≡ Minus → Turns m (index_of r c) g
turns_by {m} {g} {p} d h n r c size l e = record {
  turns = own_coefficient d h r c (subst (λ x. c < x) size l) ∙ ap (λ s. signed s num_one) e;
}

pub not_turns_by : {m : Marks} {g : Operation} {p : PlainOp} → IsDiagonal g → StandsFor m g p → (n r c : ℕ) → n ≡ 3 ^ r → c < n →
    op_sign r p c ≡ Plus → Turns m (index_of r c) g → ⊥
not_turns_by {m} {g} {p} d h n r c size l e t =
    one_not_zero (own_negative num_one (sym (own_coefficient d h r c (subst (λ x. c < x) size l) ∙ ap (λ s. signed s num_one) e) ∙ t.turns))

-- ---- an exchange of blocks leaves the coefficient from a component to itself
abbrev own : Operation → Index → Number
own g is = coefficient g is is

own-append : (g : Operation) (a b : Index) → own g (a ++ b) ≡ mul (own g a) (own g b)
own-append g [] b = sym (num_one-mul (own g b))
own-append g (i ∷ a) b = ap (mul (value g i i)) (own-append g a b) ∙ sym (num_mul_assoc (value g i i) (own g a) (own g b))

own_five : (g : Operation) (a u k v z : Index) →
    own g (a ++ u ++ k ++ v ++ z) ≡ mul (mul (mul (mul (own g a) (own g u)) (own g k)) (own g v)) (own g z)
own_five g a u k v z =
    own-append g (a ++ u ++ k ++ v) z
    ∙ ap (λ x. mul x (own g z)) (own-append g (a ++ u ++ k) v
    ∙ ap (λ x. mul x (own g v)) (own-append g (a ++ u) k ∙ ap (λ x. mul x (own g k)) (own-append g a u)))

swap_two : (a u k v : Number) → mul (mul (mul a u) k) v ≡ mul (mul (mul a v) k) u
swap_two a u k v = simp (num_mul_assoc, num_mul_left_comm, num_mul_comm)

own_exchanged : (g : Operation) {r : ℕ} {b : Bracket} {is js : Index} → IsExchange r b is js → own g is ≡ own g js
own_exchanged g x =
    ap (own g) x.was ∙ own_five g x.before x.u x.between x.v x.after
    ∙ ap (λ y. mul y (own g x.after)) (swap_two (own g x.before) (own g x.u) (own g x.between) (own g x.v))
    ∙ sym (own_five g x.before x.v x.between x.u x.after) ∙ ap (own g) (sym x.becomes)

pub own_carried : (j : JahnSymbol) (g : Operation) {c d : Index} → Carried (GroupStep j (In [])) c d → own g c ≡ own g d
own_carried j g rests = refl
own_carried j g (steps (exchange x) rest) = own_exchanged g x.exchange ∙ own_carried j g rest
own_carried j g (steps (turn k is n away) rest) = absurd (omega (arith, is.1))

pub killed_along : {m : Marks} {H : Operation → Type 0} {c d : Index} → ((g : Operation) → coefficient g c c ≡ coefficient g d d) →
    IsKilled m H c → IsKilled m H d
killed_along {m} {H} {c} {d} same h = record {
  element = h.element;
  inside = h.inside;
  diagonal = h.diagonal;
  turns = ap (mul (sign m h.element)) (sym (same h.element)) ∙ h.turns;
}

-- ---- an element of a list kills
-- what holds of each entry and of one more
pub entry_more : (P : ℕ → Entry → Type 0) (es : List Entry) (e : Entry) (n : ℕ) → length es ≡ n → ((k : ℕ) → k < n → P k (entry_at es k)) →
    P n e → (k : ℕ) → k < n + 1 → P k (entry_at (es ++ e ∷ []) k)
entry_more P es e n len each last k h =
    let none : Entry = record { first = 0; sign = Plus; vanishes = false } in
    elim (cases_lt k n) as (λ _. P k (entry_at (es ++ e ∷ []) k)) [
      | inl l ↦
          let inside : k < length es = omega (arith, len, l) in
          subst (P k) (sym (get_or_append_left es (e ∷ []) none k inside)) (each k l)
      | inr l ↦
          let same : n ≡ k = omega (arith, h, l) in
          subst (P k) (sym (get_or_push es e none k (len ∙ same))) (subst (λ i. P i e) same last)
    ]

-- ---- the diagonal elements by their rows
abbrev none : PlainOp
none = record { images = []; negates = []; whole = Plus }

pub diagonals_skip : (m : Marks) (hs : List Operation) (place : ℕ) (ps : List PlainOp) (g : Operation) → get_or hs place identity ≡ g → (IsDiagonal g → ⊥) →
    AreDiagonals m hs place ps → AreDiagonals m hs (place + 1) ps
diagonals_skip m hs place ps g at away h = record {
  found = h.found;
  all = λ k l d. elim (cases_lt k place) as (λ _. (i : ℕ) × (i < length ps) × StandsFor m (get_or hs k identity) (op_at ps i)) [
    | inl p ↦ h.all k p d
    | inr p ↦
        let same : k ≡ place = omega arith in
        absurd (away (subst IsDiagonal (ap (λ i. get_or hs i identity) same ∙ at) d))
  ];
}

pub diagonals_more : (m : Marks) (hs : List Operation) (place : ℕ) (ps : List PlainOp) (g : Operation) (p : PlainOp) → get_or hs place identity ≡ g → Contains hs g → IsDiagonal g →
    StandsFor m g p → AreDiagonals m hs place ps → AreDiagonals m hs (place + 1) (ps ++ p ∷ [])
diagonals_more m hs place ps g p at inside diagonal stands h =
    let long : length (ps ++ p ∷ []) ≡ length ps + 1 = length-append ps (p ∷ []) in
    let last : op_at (ps ++ p ∷ []) (length ps) ≡ p = get_or_push ps p none (length ps) refl in
    record {
      found = λ k l. elim (cases_lt k (length ps)) as (λ _. (x : Operation) × In hs x × IsDiagonal x × StandsFor m x (op_at (ps ++ p ∷ []) k)) [
        | inl b ↦
            let was = h.found k b in
            (was.0, was.1, was.2, subst (StandsFor m was.0) (sym (get_or_append_left ps (p ∷ []) none k b)) was.3)
        | inr b ↦
            let same : length ps ≡ k = omega arith in
            (g, inside, diagonal, subst (λ (i : ℕ). StandsFor m g (op_at (ps ++ p ∷ []) i)) same (subst (StandsFor m g) (sym last) stands))
      ];
      all = λ k l d. elim (cases_lt k place) as (λ _. (i : ℕ) × (i < length (ps ++ p ∷ [])) × StandsFor m (get_or hs k identity) (op_at (ps ++ p ∷ []) i)) [
        | inl b ↦
            let was = h.all k b d in
            let low : was.0 < length ps = was.1 in
            (was.0, omega arith, subst (StandsFor m (get_or hs k identity)) (sym (get_or_append_left ps (p ∷ []) none was.0 low)) was.2)
        | inr b ↦
            let same : place ≡ k = omega arith in
            (length ps, omega arith, subst (λ (x : Operation). StandsFor m x (op_at (ps ++ p ∷ []) (length ps))) (sym at ∙ ap (λ i. get_or hs i identity) same) (subst (StandsFor m g) (sym last) stands))
      ];
    }

pub diagonal_columns : (m : Marks) (hs : List Operation) (place : ℕ) (ps : List PlainOp) → AreDiagonals m hs place ps → AllHaveColumns ps
diagonal_columns m hs place ps h = record { each = λ k l. (h.found k l).3.permutation.columns }

-- an operation that turns a component round stands for a diagonal element that does
turned_killed : (m : Marks) (hs : List Operation) (ps : List PlainOp) → AreDiagonals m hs (length hs) ps → (n r c : ℕ) → n ≡ 3 ^ r → c < n →
    IsTurned r ps c ↔ IsKilled m (In hs) (index_of r c)
turned_killed m hs ps h n r c size l = (there, back)
  where
    there : IsTurned r ps c → IsKilled m (In hs) (index_of r c)
    there t =
        let f = h.found t.0 t.1 in
        record { element = f.0; inside = f.1; diagonal = f.2; turns = (turns_by f.2 f.3 n r c size l t.2).turns }

    by_sign : (i : ℕ) → i < length ps → (g : Operation) → IsDiagonal g → StandsFor m g (op_at ps i) → Turns m (index_of r c) g → (s : Sign) → op_sign r (op_at ps i) c ≡ s → IsTurned r ps c
    by_sign i b g d st t Minus e = (i, b, e)
    by_sign i b g d st t Plus e = absurd (not_turns_by d st n r c size l e t)

    back : IsKilled m (In hs) (index_of r c) → IsTurned r ps c
    back k =
        let p = k.inside.0 in
        let at : get_or hs p identity ≡ k.element = get_or_default hs p identity k.element k.inside.1 ∙ k.inside.2 in
        let f = h.all p k.inside.1 (subst IsDiagonal (sym at) k.diagonal) in
        by_sign f.0 f.1 (get_or hs p identity) (subst IsDiagonal (sym at) k.diagonal) f.2 (subst (Turns m (index_of r c)) (sym at) (record { turns = k.turns })) (op_sign r (op_at ps f.0) c) refl

-- a marked entry of a lower first component tells whether it is turned round
pub told_lower : (r n : ℕ) (ps : List PlainOp) (table marked : List Entry) → AreSettled n table → (k : ℕ) → k < n → first_at table k < length marked →
    ((i : ℕ) → i < length marked → IsTurnedEntry r ps (entry_at table i) (entry_at marked i)) →
    (vanishes_at marked (first_at table k) ≡ true) ↔ ((vanishes_at table k ≡ true) ⊎ IsTurned r ps (first_at table k))
told_lower r n ps table marked s k l h each =
    let f = first_at table k in
    subst (λ (x : Bool). (vanishes_at marked f ≡ true) ↔ ((x ≡ true) ⊎ IsTurned r ps f)) (s.together k l)
    (subst (λ (x : ℕ). (vanishes_at marked f ≡ true) ↔ ((vanishes_at table f ≡ true) ⊎ IsTurned r ps x)) (s.own k l) (each f h).vanishes)

pub turned_marked : (m : Marks) (hs : List Operation) (ps : List PlainOp) → AreDiagonals m hs (length hs) ps → (n r : ℕ) (old new : Entry) → n ≡ 3 ^ r → old.first < n →
    IsTurnedEntry r ps old new → IsMarked r m hs old new
turned_marked m hs ps h n r old new size l t =
    let same = turned_killed m hs ps h n r old.first size l in
    record {
      same_first = t.same_first;
      same_sign = t.same_sign;
      vanishes = (
        λ v. elim (t.vanishes.0 v) [ inl a ↦ inl a | inr b ↦ inr (same.0 b) ],
        λ v. elim v [ inl a ↦ t.vanishes.1 (inl a) | inr b ↦ t.vanishes.1 (inr (same.1 b)) ],
      );
    }
