-- The determinant of an operation is 1 or -1, and the code reads which.
use Rattle.std.proofs.Common.{◌≡◌, ℕ, ◌<◌, Bool, true, false, inl, inr, ap, sym, ◌∙◌, subst}
use Rattle.op_matrix.proofs.Determinants.{unit_determinant}
use lib.IntN.{ℤ, pos, negsuc}
use lib.Signed.{lt_z}
use mir.Syntax.{w8}
use mir.Val.{to_z, of_z}
use Rattle.tensor_defs.specs.Prelude.{mul, neg, num_one, whole, Operation, value, determinant, Marks, sign, axial_sign, time_sign}
use Rattle.tensor_defs.specs.declared.Sign.{Sign}
use Rattle.tensor_defs.specs.declared.Sign.TheVariants.{Plus, Minus}
use Rattle.number_laws.proofs.NumberLaws.{num_mul-one, num_one-mul, num_mul_assoc, num_neg-neg-one}
use Rattle.number_laws.proofs.Sameness.{whole_told}
use Rattle.op_matrix.specs.Table.{nth_operation}
use Rattle.sign_moves.specs.Signs.{signed, times}

pub one_down : whole (negsuc 0) ≡ neg num_one
one_down = sym (num_mul-one (whole (negsuc 0)))

-- whether a determinant, as the code holds it, is below 0
abbrev below_zero : ℤ → Bool
below_zero d = lt_z (to_z w8 (of_z w8 d)) (pos 0)

module _ (g : Operation) (k : ℕ) (d : ℤ) (h : k < 128) (e : g ≡ nth_operation k) (p : determinant (value g) ≡ whole d) where
  pub determinant_minus : below_zero d ≡ true → determinant (value g) ≡ neg num_one
  determinant_minus below = elim (unit_determinant g k h e) as (λ _. determinant (value g) ≡ neg num_one) [
    | inl u ↦
        (let is : d ≡ pos 1 = whole_told d (pos 1) (sym p ∙ u) in
        let t : false ≡ true = subst (λ (x : ℤ). below_zero x ≡ true) is below in
        cc)
    | inr u ↦ u ∙ one_down
  ]

  pub determinant_plus : below_zero d ≡ false → determinant (value g) ≡ num_one
  determinant_plus below = elim (unit_determinant g k h e) as (λ _. determinant (value g) ≡ num_one) [
    | inl u ↦ u
    | inr u ↦
        (let is : d ≡ negsuc 0 = whole_told d (negsuc 0) (sym p ∙ u) in
        let t : true ≡ false = subst (λ (x : ℤ). below_zero x ≡ false) is below in
        cc)
  ]

signed_times : (a b : Sign) → mul (signed a num_one) (signed b num_one) ≡ signed (times a b) num_one
signed_times Plus b = num_one-mul (signed b num_one)
signed_times Minus Plus = num_mul-one (neg num_one)
signed_times Minus Minus = simp (num_mul_assoc, num_one-mul) num_neg-neg-one

pub whole_sign : (m : Marks) (g : Operation) (a b w : Sign) → axial_sign m.axial g ≡ signed a num_one →
    time_sign m.magnetic g.primed ≡ signed b num_one → w ≡ times a b → sign m g ≡ signed w num_one
unfolding sign
whole_sign m g a b w p q e = (λ n. mul (p n) (q n)) ∙ signed_times a b ∙ ap (λ s. signed s num_one) (sym e)
