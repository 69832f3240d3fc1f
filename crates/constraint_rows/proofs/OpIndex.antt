-- A signed permutation matrix carries each component to one component, up to a sign.
--   coefficient_other    the coefficient is zero at all other indices
--   moved_number    by component numbers
--   act_number    the action at a component has one term
use Rattle.std.proofs.Common.{◌≡◌, ◌≢◌, ℕ, zero, suc, ◌^◌, ◌<◌, List, [], ◌∷◌, length, get_or, refl, ap, sym, ◌∙◌, arith, subst, inl, inr}
use Rattle.tensor_laws.proofs.Prelude.{axis_cases, turned, turned-cons, turned-nil, act-turned, length-index_of, axis_at-place, place-axis_at}
use lib.IntN.{negsuc}
use Rattle.tensor_defs.specs.Prelude.{Number, add, mul, neg, num_zero, num_one, whole, Axis, x1, x2, x3, sum_axes, Operation, value, identity, Index, Tensor}
use Rattle.tensor_defs.specs.Prelude.{Marks, act, coefficient, Agree, axis_place, component_number, axis_at, index_of}
use Rattle.number_laws.proofs.NumberLaws.{num_zero-mul, num_mul-zero, num_add-zero, num_zero-add, num_one-mul, num_mul_assoc}
use Rattle.tensor_defs.specs.declared.Sign.{Sign}
use Rattle.tensor_defs.specs.declared.Sign.TheVariants.{Plus, Minus}
use Rattle.sign_moves.specs.Prelude.{times, times-times, times_plus, signed, IsKept}
use Rattle.sign_moves.proofs.SignLaws.{signed-signed}
use Rattle.tensor_rank.specs.Prelude.{digit_of, nth, place_below, index_number_at, component_below_at, digit_index, index_of_digits}
use Rattle.constraint_rows.specs.declared.ops.PlainOp.{PlainOp}
use Rattle.constraint_rows.proofs.OpLaws.{signs_of-same}
use Rattle.constraint_rows.specs.PlainOps.{image, entry_sign, signs_of, op_carried, op_sign, StandsFor, StandForAll, op_moves}
use Rattle.tensor_rank.proofs.ExchangeIndex.{numbered}

-- where the matrix carries an index, and with which sign
abbrev column : PlainOp → Axis → Axis
column p i = axis_at (image p (axis_place i))

abbrev pub moved : PlainOp → Index → Index
moved p [] = []
moved p (i ∷ is) = column p i ∷ moved p is

abbrev pub list_signs : PlainOp → Index → Sign
list_signs p [] = Plus
list_signs p (i ∷ is) = times (entry_sign p (axis_place i)) (list_signs p is)

pub signed_mul : (s : Sign) (x : Number) → mul (signed s num_one) x ≡ signed s x
signed_mul Plus x = num_one-mul x
signed_mul Minus x = num_mul_assoc (whole (negsuc 0)) num_one x ∙ ap neg (num_one-mul x)

-- a sum with one term that is not zero
pick : (k : Axis) (v f : Axis → Number) → ((j : Axis) → j ≢ k → v j ≡ num_zero) → sum_axes (λ j. mul (v j) (f j)) ≡ mul (v k) (f k)
pick x1 v f h =
    let b : v x2 ≡ num_zero = h x2 (λ e. cc) in
    let c : v x3 ≡ num_zero = h x3 (λ e. cc) in
    (λ i. add (mul (v x1) (f x1)) (add (mul (b i) (f x2)) (mul (c i) (f x3)))) ∙ simp (num_zero-mul, num_add-zero, num_zero-add)
pick x2 v f h =
    let a : v x1 ≡ num_zero = h x1 (λ e. cc) in
    let c : v x3 ≡ num_zero = h x3 (λ e. cc) in
    (λ i. add (mul (a i) (f x1)) (add (mul (v x2) (f x2)) (mul (c i) (f x3)))) ∙ simp (num_zero-mul, num_add-zero, num_zero-add)
pick x3 v f h =
    let a : v x1 ≡ num_zero = h x1 (λ e. cc) in
    let b : v x2 ≡ num_zero = h x2 (λ e. cc) in
    (λ i. add (mul (a i) (f x1)) (add (mul (b i) (f x2)) (mul (v x3) (f x3)))) ∙ simp (num_zero-mul, num_add-zero, num_zero-add)

module _ {m : Marks} {g : Operation} {p : PlainOp} (h : StandsFor m g p) where
  column_digit : (i : Axis) → axis_place (column p i) ≡ image p (axis_place i)
  column_digit i = place-axis_at (image p (axis_place i)) (h.permutation.columns.small (axis_place i) (place_below i))

  other_zero : (i j : Axis) → j ≢ column p i → value g i j ≡ num_zero
  other_zero i j n = h.other i j (λ e. n (sym (axis_at-place j) ∙ ap axis_at e))

  pub turned_plain : (is : Index) (t : Tensor) → turned g t is ≡ signed (list_signs p is) (t (moved p is))
  turned_plain [] t = turned-nil g t
  turned_plain (i ∷ is) t =
      turned-cons g t i is
      ∙ pick (column p i) (value g i) (λ j. turned g (λ js. t (j ∷ js)) is) (other_zero i)
      ∙ (λ n. mul (h.entry i n) (turned_plain is (λ js. t (column p i ∷ js)) n))
      ∙ signed_mul (entry_sign p (axis_place i)) (signed (list_signs p is) (t (column p i ∷ moved p is)))
      ∙ signed-signed (entry_sign p (axis_place i)) (list_signs p is) (t (column p i ∷ moved p is))

  -- the coefficient is zero at all other indices
  pub coefficient_other : (is js : Index) → js ≢ moved p is → coefficient g is js ≡ num_zero
  coefficient_other [] [] n = absurd (n refl)
  coefficient_other [] (j ∷ js) n = refl
  coefficient_other (i ∷ is) [] n = refl
  coefficient_other (i ∷ is) (j ∷ js) n = elim (axis_cases j (column p i)) as (λ _. mul (value g i j) (coefficient g is js) ≡ num_zero) [
    | inl e ↦ ap (mul (value g i j)) (coefficient_other is js (λ s. n (λ k. e k ∷ s k))) ∙ num_mul-zero (value g i j)
    | inr e ↦ ap (λ x. mul x (coefficient g is js)) (other_zero i j e) ∙ num_zero-mul (coefficient g is js)
  ]

  pub coefficient_own : (is : Index) → coefficient g is (moved p is) ≡ signed (list_signs p is) num_one
  coefficient_own [] = refl
  coefficient_own (i ∷ is) = (λ n. mul (h.entry i n) (coefficient_own is n)) ∙ signed_mul (entry_sign p (axis_place i)) (signed (list_signs p is) num_one) ∙ signed-signed (entry_sign p (axis_place i)) (list_signs p is) num_one

  pub act_plain : (is : Index) (t : Tensor) → act m g t is ≡ signed (times p.whole (list_signs p is)) (t (moved p is))
  act_plain is t =
      act-turned m g t is ∙ (λ n. mul (h.whole n) (turned_plain is t n))
      ∙ signed_mul p.whole (signed (list_signs p is) (t (moved p is)))
      ∙ signed-signed p.whole (list_signs p is) (t (moved p is))

  length_moved : (is : Index) → length (moved p is) ≡ length is
  length_moved [] = refl
  length_moved (i ∷ is) = ap suc (length_moved is)

  moved_digit : (is : Index) (q : ℕ) → q < length is → axis_place (nth (moved p is) q) ≡ image p (axis_place (nth is q))
  moved_digit [] q l = absurd (omega arith)
  moved_digit (i ∷ is) zero l = column_digit i
  moved_digit (i ∷ is) (suc q) l = moved_digit is q (omega arith)

  -- by component numbers
  pub moved_number : (r c : ℕ) → c < 3 ^ r → index_of r (op_carried r p c) ≡ moved p (index_of r c)
  unfolding op_carried
  moved_number r c below =
      index_of_digits r (moved p (index_of r c)) (λ q. image p (digit_of r c q)) (length_moved (index_of r c) ∙ length-index_of r c)
      (λ q l. moved_digit (index_of r c) q (subst (λ k. q < k) (sym (length-index_of r c)) l) ∙ ap (image p) (sym (digit_index r c below q l)))

  signs_of-cons : (f : ℕ → ℕ) (k : ℕ) → signs_of p f (suc k) ≡ times (entry_sign p (f 0)) (signs_of p (λ q. f (suc q)) k)
  signs_of-cons f zero = sym (times_plus (entry_sign p (f 0)))
  signs_of-cons f (suc k) = ap (λ s. times s (entry_sign p (f (suc k)))) (signs_of-cons f k) ∙ times-times (entry_sign p (f 0)) (signs_of p (λ q. f (suc q)) k) (entry_sign p (f (suc k)))

  list_signs_of : (is : Index) → list_signs p is ≡ signs_of p (λ q. axis_place (nth is q)) (length is)
  list_signs_of [] = refl
  list_signs_of (i ∷ is) = ap (times (entry_sign p (axis_place i))) (list_signs_of is) ∙ sym (signs_of-cons (λ q. axis_place (nth (i ∷ is) q)) (length is))

  pub sign_number : (r c : ℕ) → c < 3 ^ r → times p.whole (list_signs p (index_of r c)) ≡ op_sign r p c
  sign_number r c below = ap (times p.whole) (
      list_signs_of (index_of r c) ∙ ap (signs_of p (λ q. axis_place (nth (index_of r c) q))) (length-index_of r c)
      ∙ signs_of-same p (λ q. axis_place (nth (index_of r c) q)) (digit_of r c) r (λ q l. sym (digit_index r c below q l)))

  -- the action at a component has one term
  pub act_number : (r c : ℕ) (t : Tensor) → c < 3 ^ r → act m g t (index_of r c) ≡ signed (op_sign r p c) (numbered r t (op_carried r p c))
  act_number r c t below = act_plain (index_of r c) t ∙ (λ n. signed (sign_number r c below n) (t (sym (moved_number r c below) n)))

-- a tensor is left unchanged by operations exactly where it is kept by their moves
module _ (m : Marks) (gs : List Operation) (ps : List PlainOp) (all : StandForAll m gs ps) (r : ℕ) (t : Tensor) where
  pub unchanged_kept : ((k : ℕ) → k < length gs → Agree r (act m (get_or gs k identity) t) t) → IsKept (3 ^ r) (op_moves r ps) (numbered r t)
  unchanged_kept h = record {
    same = λ k c is below.
        let place : k < length gs = subst (λ n. k < n) all.len is in
        sym (h k place (index_of r c) (length-index_of r c)) ∙ act_number (all.each k place) r c t below;
  }

  pub kept_unchanged : IsKept (3 ^ r) (op_moves r ps) (numbered r t) → (k : ℕ) → k < length gs → Agree r (act m (get_or gs k identity) t) t
  kept_unchanged h k is js l =
      let c = component_number js in
      let below : c < 3 ^ r = component_below_at r js l in
      let here : index_of r c ≡ js = index_number_at r js l in
      let place : k < length ps = subst (λ n. k < n) (sym all.len) is in
      ap (act m (get_or gs k identity) t) (sym here) ∙ act_number (all.each k is) r c t below ∙ sym (h.same k c place below) ∙ ap t here
