-- What the code reads of a signed permutation matrix stands for it.
--   row_reads    one row
--   three_stand    three rows stand for the operation
use Rattle.std.proofs.Common.{◌≡◌, ◌≢◌, Bool, true, false, cond, get_or, refl, ap, sym, ◌∙◌, subst, ◌⊎◌, inl, inr, lit<}
use Rattle.tensor_laws.proofs.ActionLaws.{half_of_two, half_of_minus_two}
use Rattle.tensor_defs.specs.Prelude.{Number, neg, num_zero, num_one, IsUnit, OneUnit, IsPlain, Axis, x1, x2, x3, Operation, entry, value, Marks, sign}
use Rattle.tensor_defs.specs.Prelude.{axis_place, axis_at}
use Rattle.tensor_defs.specs.Operation as defs
use Rattle.tensor_defs.specs.declared.Sign.TheVariants.{Plus, Minus}
use Rattle.op_matrix.specs.declared.entry.Entry.{Entry}
use Rattle.op_matrix.specs.declared.entry.Entry.TheVariants.{One, HalfRoot3, Half, Zero, MinusHalf, MinusHalfRoot3, MinusOne}
use Rattle.op_matrix.specs.View.{entry_of}
use Rattle.op_matrix.proofs.Frames.{same_entry_of}
use Rattle.sign_moves.specs.Signs.{signed}
use Rattle.constraint_rows.specs.declared.ops.PlainOp.{PlainOp}
use Rattle.constraint_rows.specs.Prelude.{image, entry_sign, StandsFor, RowReads, unit_column, row_negates}
use Rattle.constraint_rows.proofs.OpLaws.{permutation_told}
use Rattle.constraint_rows.proofs.StandLaws.{number_at, zero_number, apart_columns}

-- ---- entries of the code
unit_code : (e : Entry) → IsUnit (entry_of e) → (e ≡ One) ⊎ (e ≡ MinusOne)
unit_code One u = inl refl
unit_code HalfRoot3 (inl p) = let t : false ≡ true = same_entry_of defs.h defs.one p in cc
unit_code HalfRoot3 (inr p) = let t : false ≡ true = same_entry_of defs.h defs.minus_one p in cc
unit_code Half (inl p) = let t : false ≡ true = same_entry_of defs.half defs.one p in cc
unit_code Half (inr p) = let t : false ≡ true = same_entry_of defs.half defs.minus_one p in cc
unit_code Zero (inl p) = let t : false ≡ true = same_entry_of defs.nought defs.one p in cc
unit_code Zero (inr p) = let t : false ≡ true = same_entry_of defs.nought defs.minus_one p in cc
unit_code MinusHalf (inl p) = let t : false ≡ true = same_entry_of defs.minus_half defs.one p in cc
unit_code MinusHalf (inr p) = let t : false ≡ true = same_entry_of defs.minus_half defs.minus_one p in cc
unit_code MinusHalfRoot3 (inl p) = let t : false ≡ true = same_entry_of defs.minus_h defs.one p in cc
unit_code MinusHalfRoot3 (inr p) = let t : false ≡ true = same_entry_of defs.minus_h defs.minus_one p in cc
unit_code MinusOne u = inr refl

zero_code : (e : Entry) → entry_of e ≡ defs.nought → e ≡ Zero
zero_code One p = let t : false ≡ true = same_entry_of defs.one defs.nought p in cc
zero_code HalfRoot3 p = let t : false ≡ true = same_entry_of defs.h defs.nought p in cc
zero_code Half p = let t : false ≡ true = same_entry_of defs.half defs.nought p in cc
zero_code Zero p = refl
zero_code MinusHalf p = let t : false ≡ true = same_entry_of defs.minus_half defs.nought p in cc
zero_code MinusHalfRoot3 p = let t : false ≡ true = same_entry_of defs.minus_h defs.nought p in cc
zero_code MinusOne p = let t : false ≡ true = same_entry_of defs.minus_one defs.nought p in cc

-- ---- one row
module _ (f : Axis → Number) where
  reads_first : (n : Bool) → f x1 ≡ signed (cond n Minus Plus) num_one → f x2 ≡ num_zero → f x3 ≡ num_zero → RowReads f 0 n
  reads_first n a b c = record { small = lit< tt; entry = a; other = other }
    where
      other : (j : Axis) → axis_place j ≢ 0 → f j ≡ num_zero
      other x1 m = absurd (m refl)
      other x2 m = b
      other x3 m = c

  reads_second : (n : Bool) → f x1 ≡ num_zero → f x2 ≡ signed (cond n Minus Plus) num_one → f x3 ≡ num_zero → RowReads f 1 n
  reads_second n a b c = record { small = lit< tt; entry = b; other = other }
    where
      other : (j : Axis) → axis_place j ≢ 1 → f j ≡ num_zero
      other x1 m = a
      other x2 m = absurd (m refl)
      other x3 m = c

  reads_third : (n : Bool) → f x1 ≡ num_zero → f x2 ≡ num_zero → f x3 ≡ signed (cond n Minus Plus) num_one → RowReads f 2 n
  reads_third n a b c = record { small = lit< tt; entry = c; other = other }
    where
      other : (j : Axis) → axis_place j ≢ 2 → f j ≡ num_zero
      other x1 m = a
      other x2 m = b
      other x3 m = absurd (m refl)

  read_at : {a b c a' b' c' : Entry} → a ≡ a' → b ≡ b' → c ≡ c' →
      RowReads f (unit_column a' b') (row_negates a' b' c') → RowReads f (unit_column a b) (row_negates a b c)
  read_at {a} {b} {c} {a'} {b'} {c'} p q s h =
      subst (λ x. RowReads f (unit_column x b) (row_negates x b c)) (sym p)
      (subst (λ y. RowReads f (unit_column a' y) (row_negates a' y c)) (sym q)
      (subst (λ z. RowReads f (unit_column a' b') (row_negates a' b' z)) (sym s) h))

  code_zero : (e : Entry) → entry_of e ≡ defs.nought → (x : Axis) → f x ≡ number_at (entry_of e) → f x ≡ num_zero
  code_zero e p x is = is ∙ zero_number (entry_of e) p

  code_one : (e : Entry) → e ≡ One → (x : Axis) → f x ≡ number_at (entry_of e) → f x ≡ num_one
  code_one e p x is = is ∙ ap (λ y. number_at (entry_of y)) p ∙ half_of_two

  code_minus : (e : Entry) → e ≡ MinusOne → (x : Axis) → f x ≡ number_at (entry_of e) → f x ≡ neg num_one
  code_minus e p x is = is ∙ ap (λ y. number_at (entry_of y)) p ∙ half_of_minus_two

  row_of_code : (a b c : Entry) → f x1 ≡ number_at (entry_of a) → f x2 ≡ number_at (entry_of b) → f x3 ≡ number_at (entry_of c) →
      OneUnit (entry_of a) (entry_of b) (entry_of c) → RowReads f (unit_column a b) (row_negates a b c)
  row_of_code a b c p q s (inl h) = elim (unit_code a h.0) as (λ _. RowReads f (unit_column a b) (row_negates a b c)) [
    | inl u ↦ read_at u (zero_code b h.1) (zero_code c h.2) (reads_first false (code_one a u x1 p) (code_zero b h.1 x2 q) (code_zero c h.2 x3 s))
    | inr u ↦ read_at u (zero_code b h.1) (zero_code c h.2) (reads_first true (code_minus a u x1 p) (code_zero b h.1 x2 q) (code_zero c h.2 x3 s))
  ]
  row_of_code a b c p q s (inr (inl h)) = elim (unit_code b h.1) as (λ _. RowReads f (unit_column a b) (row_negates a b c)) [
    | inl u ↦ read_at (zero_code a h.0) u (zero_code c h.2) (reads_second false (code_zero a h.0 x1 p) (code_one b u x2 q) (code_zero c h.2 x3 s))
    | inr u ↦ read_at (zero_code a h.0) u (zero_code c h.2) (reads_second true (code_zero a h.0 x1 p) (code_minus b u x2 q) (code_zero c h.2 x3 s))
  ]
  row_of_code a b c p q s (inr (inr h)) = elim (unit_code c h.2) as (λ _. RowReads f (unit_column a b) (row_negates a b c)) [
    | inl u ↦ read_at (zero_code a h.0) (zero_code b h.1) u (reads_third false (code_zero a h.0 x1 p) (code_zero b h.1 x2 q) (code_one c u x3 s))
    | inr u ↦ read_at (zero_code a h.0) (zero_code b h.1) u (reads_third true (code_zero a h.0 x1 p) (code_zero b h.1 x2 q) (code_minus c u x3 s))
  ]

pub row_reads : (g : Operation) (i : Axis) (a b c : Entry) → IsPlain g → entry_of a ≡ entry g i x1 → entry_of b ≡ entry g i x2 →
    entry_of c ≡ entry g i x3 → RowReads (value g i) (unit_column a b) (row_negates a b c)
unfolding value
row_reads g i a b c h p q s =
    row_of_code (value g i) a b c (ap number_at (sym p)) (ap number_at (sym q)) (ap number_at (sym s))
    (subst (λ x. OneUnit x (entry_of b) (entry_of c)) (sym p) (subst (λ y. OneUnit (entry g i x1) y (entry_of c)) (sym q) (subst (λ z. OneUnit (entry g i x1) (entry g i x2) z) (sym s) (h.rows i))))

-- ---- three rows stand for the operation
pub three_stand : (m : Marks) (g : Operation) (p : PlainOp) → IsPlain g →
    RowReads (value g x1) (image p 0) (get_or p.negates 0 false) → RowReads (value g x2) (image p 1) (get_or p.negates 1 false) →
    RowReads (value g x3) (image p 2) (get_or p.negates 2 false) → sign m g ≡ signed p.whole num_one → StandsFor m g p
three_stand m g p h a b c w = record {
  permutation = permutation_told p a.small b.small c.small
      (λ e. apart_columns g h x1 x2 (λ q. cc) (axis_at (image p 0)) _ _ a.entry (ap (λ k. value g x2 (axis_at k)) e ∙ b.entry))
      (λ e. apart_columns g h x1 x3 (λ q. cc) (axis_at (image p 0)) _ _ a.entry (ap (λ k. value g x3 (axis_at k)) e ∙ c.entry))
      (λ e. apart_columns g h x2 x3 (λ q. cc) (axis_at (image p 1)) _ _ b.entry (ap (λ k. value g x3 (axis_at k)) e ∙ c.entry));
  entry = entries;
  other = others;
  whole = w;
}
  where
    entries : (i : Axis) → value g i (axis_at (image p (axis_place i))) ≡ signed (entry_sign p (axis_place i)) num_one
    entries x1 = a.entry
    entries x2 = b.entry
    entries x3 = c.entry

    others : (i j : Axis) → axis_place j ≢ image p (axis_place i) → value g i j ≡ num_zero
    others x1 j n = a.other j n
    others x2 j n = b.other j n
    others x3 j n = c.other j n
