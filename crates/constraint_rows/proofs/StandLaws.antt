-- A signed permutation matrix has a stand-in.
--   number_at    the number of an entry
--   RowStands    a row of three numbers with one that is 1 or -1
--   apart_columns    two rows of a plain matrix have their entries in two columns
--   plain_stands    each signed permutation matrix has a stand-in
use Rattle.std.proofs.Common.{◌≡◌, ◌≢◌, Bool, true, false, cond, [], ◌∷◌, refl, ap, sym, ◌∙◌, inl, inr}
use lib.IntN.{negsuc}
use Rattle.op_matrix.specs.Table.{place}
use Rattle.op_matrix.proofs.Listed.{Placed, plain_placed}
use Rattle.op_matrix.proofs.Determinants.{unit_determinant}
use Rattle.tensor_laws.proofs.Prelude.{half_of_two, half_of_none, half_of_minus_two, axis_cases, axis_at-place}
use Rattle.tensor_defs.specs.Prelude.{Number, mul, num_zero, num_one, whole, half_of, Axis, x1, x2, x3, Entry, Operation, entry, value, determinant, nought}
use Rattle.tensor_defs.specs.Prelude.{Marks, sign, axial_sign, time_sign, IsUnit, OneUnit, IsPlain, axis_place, axis_at}
use Rattle.number_laws.proofs.NumberLaws.{num_mul-one}
use Rattle.tensor_defs.specs.declared.Sign.{Sign}
use Rattle.tensor_defs.specs.declared.Sign.TheVariants.{Plus, Minus}
use Rattle.sign_moves.specs.Signs.{signed, times}
use Rattle.sign_moves.proofs.SignLaws.{signed-signed, sign_not_zero}
use Rattle.constraint_rows.proofs.OpIndex.{signed_mul}
use Rattle.constraint_rows.specs.declared.ops.PlainOp.{PlainOp}
use Rattle.constraint_rows.specs.PlainOps.{image, entry_sign, IsPermutation, StandsFor}
use Rattle.constraint_rows.proofs.OpLaws.{permutation_told}
use Rattle.tensor_rank.specs.IndexLaws.{place_below}

-- the number of an entry
abbrev pub number_at : Entry → Number
number_at e = half_of e.rational e.root

unit_number : (e : Entry) → IsUnit e → (s : Sign) × (number_at e ≡ signed s num_one)
unit_number e (inl p) = (Plus, ap number_at p ∙ half_of_two)
unit_number e (inr p) = (Minus, ap number_at p ∙ half_of_minus_two)

pub zero_number : (e : Entry) → e ≡ nought → number_at e ≡ num_zero
zero_number e p = ap number_at p ∙ half_of_none

-- a row of three numbers with one that is 1 or -1
pub record RowStands (f : Axis → Number) : Type 0 where
  pub column : Axis
  pub sign : Sign
  pub entry : f column ≡ signed sign num_one
  pub other : (j : Axis) → j ≢ column → f j ≡ num_zero

row_of_unit : (a b c : Entry) (f : Axis → Number) → f x1 ≡ number_at a → f x2 ≡ number_at b → f x3 ≡ number_at c → OneUnit a b c → RowStands f
row_of_unit a b c f p q s (inl h) =
    let u = unit_number a h.0 in
    record { column = x1; sign = u.0; entry = p ∙ u.1; other = off }
  where
    off : (j : Axis) → j ≢ x1 → f j ≡ num_zero
    off x1 n = absurd (n refl)
    off x2 n = q ∙ zero_number b h.1
    off x3 n = s ∙ zero_number c h.2
row_of_unit a b c f p q s (inr (inl h)) =
    let u = unit_number b h.1 in
    record { column = x2; sign = u.0; entry = q ∙ u.1; other = off }
  where
    off : (j : Axis) → j ≢ x2 → f j ≡ num_zero
    off x1 n = p ∙ zero_number a h.0
    off x2 n = absurd (n refl)
    off x3 n = s ∙ zero_number c h.2
row_of_unit a b c f p q s (inr (inr h)) =
    let u = unit_number c h.2 in
    record { column = x3; sign = u.0; entry = s ∙ u.1; other = off }
  where
    off : (j : Axis) → j ≢ x3 → f j ≡ num_zero
    off x1 n = p ∙ zero_number a h.0
    off x2 n = q ∙ zero_number b h.1
    off x3 n = absurd (n refl)

pub row_stands : (g : Operation) → IsPlain g → (i : Axis) → RowStands (value g i)
unfolding value
row_stands g h i = row_of_unit (entry g i x1) (entry g i x2) (entry g i x3) (value g i) refl refl refl (h.rows i)

pub column_stands : (g : Operation) → IsPlain g → (j : Axis) → RowStands (λ i. value g i j)
unfolding value
column_stands g h j = row_of_unit (entry g x1 j) (entry g x2 j) (entry g x3 j) (λ i. value g i j) refl refl refl (h.columns j)

-- two rows of a plain matrix have their entries in two columns
pub apart_columns : (g : Operation) (h : IsPlain g) (i k : Axis) → i ≢ k → (c : Axis) (s t : Sign) → value g i c ≡ signed s num_one →
    value g k c ≡ signed t num_one → ⊥
apart_columns g h i k n c s t p q =
    let col = column_stands g h c in
    elim (axis_cases i col.column) as (λ _. ⊥) [
      | inl e ↦ sign_not_zero t (sym q ∙ col.other k (λ u. n (e ∙ sym u)))
      | inr e ↦ sign_not_zero s (sym p ∙ col.other i e)
    ]

apart : (g : Operation) (h : IsPlain g) (i k : Axis) → i ≢ k → (row_stands g h i).column ≢ (row_stands g h k).column
apart g h i k n same =
    apart_columns g h i k n (row_stands g h i).column (row_stands g h i).sign (row_stands g h k).sign
    (row_stands g h i).entry (ap (value g k) same ∙ (row_stands g h k).entry)

determinant_unit : (g : Operation) → IsPlain g → (s : Sign) × (determinant (value g) ≡ signed s num_one)
determinant_unit g h =
    let p : Placed g = plain_placed g h in
    elim (unit_determinant g (place g) p.0 p.1) [
      | inl e ↦ (Plus, e)
      | inr e ↦ (Minus, e ∙ sym (num_mul-one (whole (negsuc 0))))
    ]

-- the sign of the whole
times_unit : (x y : Number) → (s : Sign) × (x ≡ signed s num_one) → (u : Sign) × (y ≡ signed u num_one) → (s : Sign) × (mul x y ≡ signed s num_one)
times_unit x y a b = (times a.0 b.0, (λ n. mul (a.1 n) (b.1 n)) ∙ signed_mul a.0 (signed b.0 num_one) ∙ signed-signed a.0 b.0 num_one)

axial_unit : (e : Bool) (g : Operation) → IsPlain g → (s : Sign) × (axial_sign e g ≡ signed s num_one)
axial_unit true g h = determinant_unit g h
axial_unit false g h = (Plus, refl)

time_unit : (a p : Bool) → (s : Sign) × (time_sign a p ≡ signed s num_one)
time_unit true true = (Minus, refl)
time_unit true false = (Plus, refl)
time_unit false p = (Plus, refl)

sign_unit : (m : Marks) (g : Operation) → IsPlain g → (s : Sign) × (sign m g ≡ signed s num_one)
unfolding sign
sign_unit m g h = times_unit (axial_sign m.axial g) (time_sign m.magnetic g.primed) (axial_unit m.axial g h) (time_unit m.magnetic g.primed)

abbrev is_minus : Sign → Bool
is_minus Plus = false
is_minus Minus = true

minus_sign : (s : Sign) → cond (is_minus s) Minus Plus ≡ s
minus_sign Plus = refl
minus_sign Minus = refl

-- each signed permutation matrix has a stand-in
pub plain_stands : (m : Marks) (g : Operation) → IsPlain g → (p : PlainOp) × StandsFor m g p
plain_stands m g h =
    let whole = sign_unit m g h in
    (made whole.0, record { permutation = permuted whole.0; entry = entries whole.0; other = others whole.0; whole = whole.1 })
  where
    made : Sign → PlainOp
    made w = record {
      images = axis_place (row_stands g h x1).column ∷ (axis_place (row_stands g h x2).column ∷ (axis_place (row_stands g h x3).column ∷ []));
      negates = is_minus (row_stands g h x1).sign ∷ (is_minus (row_stands g h x2).sign ∷ (is_minus (row_stands g h x3).sign ∷ []));
      whole = w;
    }

    away : (i k : Axis) → i ≢ k → axis_place (row_stands g h i).column ≢ axis_place (row_stands g h k).column
    away i k n e = apart g h i k n (sym (axis_at-place (row_stands g h i).column) ∙ ap axis_at e ∙ axis_at-place (row_stands g h k).column)

    permuted : (w : Sign) → IsPermutation (made w)
    permuted w = permutation_told (made w) (place_below (row_stands g h x1).column) (place_below (row_stands g h x2).column) (place_below (row_stands g h x3).column) (away x1 x2 (λ e. cc)) (away x1 x3 (λ e. cc)) (away x2 x3 (λ e. cc))

    at_row : (i : Axis) → value g i (axis_at (axis_place (row_stands g h i).column)) ≡ signed (cond (is_minus (row_stands g h i).sign) Minus Plus) num_one
    at_row i = ap (value g i) (axis_at-place (row_stands g h i).column) ∙ (row_stands g h i).entry ∙ ap (λ s. signed s num_one) (sym (minus_sign (row_stands g h i).sign))

    entries : (w : Sign) (i : Axis) → value g i (axis_at (image (made w) (axis_place i))) ≡ signed (entry_sign (made w) (axis_place i)) num_one
    entries w x1 = at_row x1
    entries w x2 = at_row x2
    entries w x3 = at_row x3

    others : (w : Sign) (i j : Axis) → axis_place j ≢ image (made w) (axis_place i) → value g i j ≡ num_zero
    others w x1 j n = (row_stands g h x1).other j (λ e. n (ap axis_place e))
    others w x2 j n = (row_stands g h x2).other j (λ e. n (ap axis_place e))
    others w x3 j n = (row_stands g h x3).other j (λ e. n (ap axis_place e))
