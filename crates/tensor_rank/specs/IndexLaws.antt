-- Index lists and component numbers are inverse to each other, and their digits are the same.
--   nth             the index at a place
--   number_index_at, index_number_at    numbers and indices of one rank are inverse
--   digit_index     a digit of a number is that of its index
--   index_of_digits    an index list is told by its digits
use Rattle.std.specs.Prelude.{◌≡◌, ℕ, ◌+◌, ◌*◌, ◌^◌, ◌<◌, [], ◌∷◌, length, get_or, refl}
use Rattle.std.proofs.Common.{zero, suc, ap, sym, ◌∙◌, arith, subst}
use Rattle.std.proofs.Math.Nat.{pow-suc}
use Rattle.tensor_defs.specs.Prelude.{Axis, x1, x2, x3, Index, axis_place, digit, component_number, index_of}
use Rattle.tensor_laws.proofs.ComponentNumbers.{length-index_of, number-index_of, number_below, index_of-number}
use Rattle.tensor_rank.specs.Digits.{digit_of, number_of}
use Rattle.tensor_rank.specs.DigitLaws.{number_of-same, digit_of-number}
use Rattle.std.proofs.Common.{lit<}

abbrev pub nth : Index → ℕ → Axis
nth is p = get_or is p x1

pub place_below : (i : Axis) → axis_place i < 3
place_below x1 = lit< tt
place_below x2 = lit< tt
place_below x3 = lit< tt

pub digit_place : (i : Axis) → digit i ≡ axis_place i + 1
digit_place x1 = refl
digit_place x2 = refl
digit_place x3 = refl

pub number_index_at : (r c : ℕ) → c < 3 ^ r → component_number (index_of r c) ≡ c
number_index_at r c h = number-index_of r c h

pub index_number_at : (r : ℕ) (is : Index) → length is ≡ r → index_of r (component_number is) ≡ is
index_number_at r is l = ap (λ k. index_of k (component_number is)) (sym l) ∙ index_of-number is

pub component_below_at : (r : ℕ) (is : Index) → length is ≡ r → component_number is < 3 ^ r
component_below_at r is l = subst (λ k. component_number is < 3 ^ k) l (number_below is)

number_of-cons : (k : ℕ) (f : ℕ → ℕ) → number_of (suc k) f ≡ f 0 * 3 ^ k + number_of k (λ p. f (suc p))
unfolding number_of
number_of-cons zero f = omega arith
number_of-cons (suc k) f =
    let e : 3 * number_of k f + f k ≡ f 0 * 3 ^ k + number_of k (λ p. f (suc p)) = number_of-cons k f in
    rw (pow-suc 3 k) (omega arith)

pub digits_number : (is : Index) → number_of (length is) (λ p. axis_place (nth is p)) ≡ component_number is
unfolding number_of
digits_number [] = refl
digits_number (i ∷ is) =
    number_of-cons (length is) (λ p. axis_place (nth (i ∷ is) p))
    ∙ ap (λ x. axis_place i * 3 ^ length is + x) (digits_number is)

digit_own : (is : Index) (p : ℕ) → p < length is → digit_of (length is) (component_number is) p ≡ axis_place (nth is p)
digit_own is p h =
    ap (λ c. digit_of (length is) c p) (sym (digits_number is))
    ∙ digit_of-number (length is) (λ q. axis_place (nth is q)) (λ q l. place_below (nth is q)) p h

pub digit_list : (r : ℕ) (is : Index) → length is ≡ r → (p : ℕ) → p < r →
    digit_of r (component_number is) p ≡ axis_place (nth is p)
digit_list r is l =
    subst (λ k. (p : ℕ) → p < k → digit_of k (component_number is) p ≡ axis_place (nth is p)) l (digit_own is)

pub digit_index : (r c : ℕ) → c < 3 ^ r → (p : ℕ) → p < r → digit_of r c p ≡ axis_place (nth (index_of r c) p)
digit_index r c h p l =
    ap (λ d. digit_of r d p) (sym (number-index_of r c h)) ∙ digit_list r (index_of r c) (length-index_of r c) p l

pub index_of_digits : (r : ℕ) (is : Index) (f : ℕ → ℕ) → length is ≡ r →
    ((p : ℕ) → p < r → axis_place (nth is p) ≡ f p) → index_of r (number_of r f) ≡ is
index_of_digits r is f l e =
    ap (index_of r)
    (sym (number_of-same r (λ p. axis_place (nth is p)) f e)
    ∙ ap (λ k. number_of k (λ p. axis_place (nth is p))) (sym l) ∙ digits_number is)
    ∙ index_number_at r is l
