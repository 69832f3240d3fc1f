-- The signs 1 and -1.
use Rattle.std.proofs.Common.{◌≡◌, ap, sym, ◌∙◌, ◌⊎◌, inl, inr}
use Rattle.number_laws.proofs.NumberLaws.{num_mul-one, num_one-mul, num_neg-neg, num_minus_one-mul}
use Rattle.tensor_defs.specs.Prelude.{IsSign, Number, mul, neg, num_one}

pub sign_twice : (a : Number) → IsSign a → (x : Number) → mul a (mul a x) ≡ x
sign_twice a (inl e) x = (λ i. mul (e i) (mul (e i) x)) ∙ num_one-mul _ ∙ num_one-mul x
sign_twice a (inr e) x =
    (λ i. mul (e i) (mul (e i) x)) ∙ num_minus_one-mul (mul (neg num_one) x) ∙ ap neg (num_minus_one-mul x) ∙ num_neg-neg x

pub sign_square : (a : Number) → IsSign a → mul a a ≡ num_one
sign_square a s = ap (mul a) (sym (num_mul-one a)) ∙ sign_twice a s num_one

pub sign_mul : (a b : Number) → IsSign a → IsSign b → IsSign (mul a b)
sign_mul a b (inl e) (inl f) = inl ((λ i. mul (e i) (f i)) ∙ num_one-mul num_one)
sign_mul a b (inl e) (inr f) = inr ((λ i. mul (e i) (f i)) ∙ num_one-mul _)
sign_mul a b (inr e) (inl f) = inr ((λ i. mul (e i) (f i)) ∙ num_mul-one _)
sign_mul a b (inr e) (inr f) = inl ((λ i. mul (e i) (f i)) ∙ num_minus_one-mul _ ∙ num_neg-neg num_one)

pub same_or_negative : (a b : Number) → IsSign a → IsSign b → (a ≡ b) ⊎ (a ≡ neg b)
same_or_negative a b (inl e) (inl f) = inl (e ∙ sym f)
same_or_negative a b (inl e) (inr f) = inr (e ∙ sym (num_neg-neg num_one) ∙ sym (ap neg f))
same_or_negative a b (inr e) (inl f) = inr (e ∙ sym (ap neg f))
same_or_negative a b (inr e) (inr f) = inl (e ∙ sym f)
