-- A diagonal operation multiplies each component by 1 or -1.
use Rattle.std.proofs.Common.{◌≡◌, ◌≢◌, Bool, true, false, [], ◌∷◌, refl, ap, sym, ◌∙◌, inl, inr}
use Rattle.number_laws.proofs.NumberLaws.{num_mul_assoc, num_add-zero, num_zero-add, num_zero-mul, num_mul-zero, num_one-mul}
use Rattle.tensor_defs.specs.Prelude.{IsSign, IsUnit, IsDiagonal, Number, add, mul, neg, num_zero, half_of, Axis, x1, x2, x3, sum_axes, Entry, Operation}
use Rattle.tensor_defs.specs.Prelude.{entry, value, determinant, Index, Tensor, Marks, axial_sign, time_sign, sign, coefficient, act}
use Rattle.tensor_laws.proofs.Prelude.{turned, turned-cons, turned-nil, act-turned, half_of_two, half_of_none, half_of_minus_two}
use Rattle.axis_laws.proofs.Signs.{sign_mul}

-- ---- entries
entry_sign : (e : Entry) → IsUnit e → IsSign (half_of e.rational e.root)
entry_sign e (inl h) = inl (ap (λ x. half_of x.rational x.root) h ∙ half_of_two)
entry_sign e (inr h) = inr (ap (λ x. half_of x.rational x.root) h ∙ half_of_minus_two)

x1_x2 : x1 ≢ x2
x1_x2 e = cc

x1_x3 : x1 ≢ x3
x1_x3 e = cc

x2_x3 : x2 ≢ x3
x2_x3 e = cc

module _ (d : Operation) (h : IsDiagonal d) where
  off_zero : (i j : Axis) → i ≢ j → value d i j ≡ num_zero
  unfolding value
  off_zero i j n = elim (h i j) [
    | inl p ↦ absurd (n p.0)
    | inr p ↦ ap (λ x. half_of x.rational x.root) p.1 ∙ half_of_none
  ]

  own_sign : (i : Axis) → IsSign (value d i i)
  unfolding value
  own_sign i = elim (h i i) [ inl p ↦ entry_sign (entry d i i) p.1 | inr p ↦ absurd (p.0 refl) ]

  pick : (i : Axis) (f : Axis → Number) → sum_axes (λ j. mul (value d i j) (f j)) ≡ mul (value d i i) (f i)
  pick x1 f =
      (λ n. add (mul (value d x1 x1) (f x1)) (add (mul (off_zero x1 x2 x1_x2 n) (f x2))
      (mul (off_zero x1 x3 x1_x3 n) (f x3)))) ∙ simp (num_zero-mul, num_add-zero)
  pick x2 f =
      (λ n. add (mul (off_zero x2 x1 (λ e. x1_x2 (sym e)) n) (f x1)) (add (mul (value d x2 x2) (f x2))
      (mul (off_zero x2 x3 x2_x3 n) (f x3)))) ∙ simp (num_zero-mul, num_add-zero, num_zero-add)
  pick x3 f =
      (λ n. add (mul (off_zero x3 x1 (λ e. x1_x3 (sym e)) n) (f x1)) (add (mul (off_zero x3 x2 (λ e. x2_x3 (sym e)) n)
      (f x2)) (mul (value d x3 x3) (f x3)))) ∙ simp (num_zero-mul, num_zero-add)

  -- ---- the factor at a component
  diagonal_turned : (is : Index) (t : Tensor) → turned d t is ≡ mul (coefficient d is is) (t is)
  diagonal_turned [] t = turned-nil d t ∙ sym (num_one-mul (t []))
  diagonal_turned (i ∷ is) t =
      turned-cons d t i is ∙ pick i (λ j. turned d (λ js. t (j ∷ js)) is)
      ∙ ap (mul (value d i i)) (diagonal_turned is (λ js. t (i ∷ js)))
      ∙ sym (num_mul_assoc (value d i i) (coefficient d is is) (t (i ∷ is)))

  pub diagonal_acts : (m : Marks) (t : Tensor) (is : Index) →
      act m d t is ≡ mul (mul (sign m d) (coefficient d is is)) (t is)
  diagonal_acts m t is =
      act-turned m d t is ∙ ap (mul (sign m d)) (diagonal_turned is t)
      ∙ sym (num_mul_assoc (sign m d) (coefficient d is is) (t is))

  pub coefficient_sign : (is : Index) → IsSign (coefficient d is is)
  coefficient_sign [] = inl refl
  coefficient_sign (i ∷ is) = sign_mul (value d i i) (coefficient d is is) (own_sign i) (coefficient_sign is)

  determinant_diagonal : determinant (value d) ≡ mul (value d x1 x1) (mul (value d x2 x2) (value d x3 x3))
  determinant_diagonal =
      (λ n. add (mul (value d x1 x1) (add (mul (value d x2 x2) (value d x3 x3))
      (neg (mul (off_zero x2 x3 x2_x3 n) (value d x3 x2)))))
      (add (mul (off_zero x1 x2 x1_x2 n) (add (mul (value d x2 x3) (value d x3 x1))
      (neg (mul (value d x2 x1) (value d x3 x3)))))
      (mul (off_zero x1 x3 x1_x3 n) (add (mul (value d x2 x1) (value d x3 x2))
      (neg (mul (value d x2 x2) (value d x3 x1)))))))
      ∙ simp (num_zero-mul, num_mul-zero, num_add-zero)

  axial_is_sign : (a : Bool) → IsSign (axial_sign a d)
  axial_is_sign true = elim (sign_mul (value d x1 x1) (mul (value d x2 x2) (value d x3 x3)) (own_sign x1)
      (sign_mul (value d x2 x2) (value d x3 x3) (own_sign x2) (own_sign x3))) [
        | inl e ↦ inl (determinant_diagonal ∙ e)
        | inr e ↦ inr (determinant_diagonal ∙ e)
      ]
  axial_is_sign false = inl refl

  pub sign_is_sign : (m : Marks) → IsSign (sign m d)
  unfolding sign
  sign_is_sign m = sign_mul (axial_sign m.axial d) (time_sign m.magnetic d.primed) (axial_is_sign m.axial)
      (time m.magnetic d.primed)
    where
      time : (a p : Bool) → IsSign (time_sign a p)
      time true true = inr refl
      time true false = inl refl
      time false p = inl refl
