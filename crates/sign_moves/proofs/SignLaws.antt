-- Numbers with signs.
use Rattle.std.proofs.Common.{◌≡◌, ◌≢◌, refl, ap, sym, ◌∙◌}
use lib.IntN.{pos}
use Rattle.tensor_defs.specs.Number.{Number, add, mul, neg, num_zero, num_one, half_of}
use Rattle.number_laws.proofs.NumberLaws.{num_mul-zero, num_neg-neg, num_add-neg, num_mul-one, num_one-mul, num_mul-add, num_mul_assoc, two_halves, num_mul_comm}
use Rattle.number_laws.proofs.Sameness.{one_not_zero}
use Rattle.tensor_defs.specs.declared.Sign.{Sign}
use Rattle.tensor_defs.specs.declared.Sign.TheVariants.{Plus, Minus}
use Rattle.sign_moves.specs.Signs.{times, signed}

pub signed-signed : (s u : Sign) (x : Number) → signed s (signed u x) ≡ signed (times s u) x
signed-signed Plus u x = refl
signed-signed Minus Plus x = refl
signed-signed Minus Minus x = num_neg-neg x

pub signed_zero : (s : Sign) → signed s num_zero ≡ num_zero
signed_zero Plus = refl
signed_zero Minus = num_mul-zero _

half_double : (x : Number) → mul (half_of (pos 1) (pos 0)) (add x x) ≡ x
half_double x =
    let h : Number = half_of (pos 1) (pos 0) in
    ap (mul h) ((λ i. add (sym (num_mul-one x) i) (sym (num_mul-one x) i)) ∙ sym (num_mul-add x num_one num_one) ∙ num_mul_comm x (add num_one num_one))
    ∙ sym (num_mul_assoc h (add num_one num_one) x) ∙ ap (λ y. mul y x) two_halves ∙ num_one-mul x

-- x = -x tells that x is 0
pub own_negative : (x : Number) → x ≡ neg x → x ≡ num_zero
own_negative x e = sym (half_double x) ∙ ap (mul (half_of (pos 1) (pos 0))) (ap (add x) e ∙ num_add-neg x) ∙ num_mul-zero (half_of (pos 1) (pos 0))

pub sign_not_zero : (s : Sign) → signed s num_one ≡ num_zero → ⊥
sign_not_zero Plus e = one_not_zero e
sign_not_zero Minus e = one_not_zero (sym (num_neg-neg num_one) ∙ ap neg e ∙ num_mul-zero _)

pub opposite : (s u : Sign) (x : Number) → signed s x ≡ signed u x → s ≢ u → x ≡ num_zero
opposite Plus Plus x e differ = absurd (differ refl)
opposite Plus Minus x e differ = own_negative x e
opposite Minus Plus x e differ = own_negative x (sym e)
opposite Minus Minus x e differ = absurd (differ refl)
