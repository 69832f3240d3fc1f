-- Booleans and small numbers.
--   same_truth               two booleans of which each is true where the other is are one
--   both, both_of            a test that asks two things: if a then b else false
--   either_told, either_left, either_right, either_none    one that asks one of two: if a then true else b
--   implied                  one that asks b where a holds: if a then b else true
--   same_bool, same_bool_true    the test of equality
--   clash_numbers            no number is two different ones
--   plain_xor, xor_plain     an exclusive or with false, and of a boolean with itself
--   xor_self
--   xor_assoc
--   next_number, same_power, double_power    suc n as a sum, and the powers of 2
--   power_four               2 to at most the fourth is at most 16
--   same_numbers_own, same_numbers_told    `same_numbers_in` is true of a list and itself, and only there
-- In std (lemmas.Bool): `both_ways` (not false and true), `false≢true`, `cases_Bool`, `and_parts`, `and_from`,
-- `or_left`, `or_right`, `or_cases`, `or_from`, `false_from_ne_true`; on tests of numbers `eq-eqb`, `ne_eqb`,
-- `eqb-true`, `lt-ltb`, `ltb-true`, `le-ltb`, `leb-true`; `cases_lt`, `cases_eq`, `cases_order`.
use Rattle.std.proofs.Common.{◌≡◌, ℕ, suc, ◌+◌, ◌*◌, ◌^◌, Bool, true, false, cond, ◌⊎◌, inl, inr, refl, ap, sym, ◌∙◌, arith}
use mathlib.Core.Bool.{xor}
use Rattle.std.proofs.Math.Nat.{pow-suc}
use Rattle.std.proofs.Common.{zero, ◌≤◌, List, [], ◌∷◌, nat_eq, eq-eqb, lit≤}
use Rattle.std.proofs.lemmas.Bool.{eqb-true}
use Rattle.tensor_defs.specs.Lists.{same_numbers_in}

pub same_truth : (a b : Bool) → (a ≡ true → b ≡ true) → (b ≡ true → a ≡ true) → a ≡ b
same_truth true b f g = sym (f refl)
same_truth false true f g = g refl
same_truth false false f g = refl

pub both : (a b : Bool) → cond a b false ≡ true → (a ≡ true) × (b ≡ true)
both true b e = (refl, e)
both false b e = cc

pub both_of : (a b : Bool) → a ≡ true → b ≡ true → cond a b false ≡ true
both_of a b e f = rw e f

pub either_told : (a b : Bool) → cond a true b ≡ true → (a ≡ true) ⊎ (b ≡ true)
either_told true b e = inl refl
either_told false b e = inr e

pub either_left : (a b : Bool) → a ≡ true → cond a true b ≡ true
either_left a b e = rw e refl

pub either_right : (a b : Bool) → b ≡ true → cond a true b ≡ true
either_right true b e = refl
either_right false b e = e

pub either_none : (a b : Bool) → a ≡ false → b ≡ false → cond a true b ≡ false
either_none a b e f = rw e f

pub implied : (a b : Bool) → cond a b true ≡ true → a ≡ true → b ≡ true
implied true b e f = e
implied false b e f = cc

abbrev pub same_bool : Bool → Bool → Bool
same_bool true b = b
same_bool false true = false
same_bool false false = true

pub same_bool_true : (a b : Bool) → same_bool a b ≡ true → a ≡ b
same_bool_true true true e = refl
same_bool_true true false e = cc
same_bool_true false true e = cc
same_bool_true false false e = refl

pub clash_numbers : (a b x : ℕ) → (a ≡ b → ⊥) → x ≡ a → x ≡ b → ⊥
clash_numbers a b x n e f = n (sym e ∙ f)

-- ---- the exclusive or
pub plain_xor : (a : Bool) → a ≡ xor false a
unfolding xor
plain_xor true = refl
plain_xor false = refl

pub xor_plain : (a : Bool) → a ≡ xor a false
unfolding xor
xor_plain true = refl
xor_plain false = refl

pub xor_self : (a : Bool) → false ≡ xor a a
unfolding xor
xor_self true = refl
xor_self false = refl

pub xor_assoc : (a b c : Bool) → xor (xor a b) c ≡ xor a (xor b c)
unfolding xor
xor_assoc true true true = refl
xor_assoc true true false = refl
xor_assoc true false true = refl
xor_assoc true false false = refl
xor_assoc false true true = refl
xor_assoc false true false = refl
xor_assoc false false true = refl
xor_assoc false false false = refl

-- ---- numbers
pub next_number : (n : ℕ) → suc n ≡ 1 + n
next_number n = omega arith

pub double_power : (n : ℕ) → 2 ^ (1 + n) ≡ 2 ^ n + 2 ^ n
double_power n = ap (λ (k : ℕ). 2 ^ k) (sym (next_number n)) ∙ pow-suc 2 n ∙ twice (2 ^ n)
  where
    twice : (m : ℕ) → m * 2 ≡ m + m
    twice m = omega arith

pub same_power : (n : ℕ) → 2 ^ (0 + n) ≡ 2 ^ n
same_power n = ap (λ (k : ℕ). 2 ^ k) (none_more n)
  where
    none_more : (n : ℕ) → 0 + n ≡ n
    none_more n = omega arith

pub power_four : (n : ℕ) → n ≤ 4 → 2 ^ n ≤ 16
power_four zero h = lit≤ tt
power_four (suc zero) h = lit≤ tt
power_four (suc (suc zero)) h = lit≤ tt
power_four (suc (suc (suc zero))) h = lit≤ tt
power_four (suc (suc (suc (suc zero)))) h = lit≤ tt
power_four (suc (suc (suc (suc (suc n))))) h = omega arith

-- ---- lists of numbers
pub same_numbers_own : (xs : List ℕ) → same_numbers_in xs xs ≡ true
same_numbers_own [] = refl
same_numbers_own (x ∷ xs) = both_of (nat_eq x x) (same_numbers_in xs xs) (eq-eqb x x refl) (same_numbers_own xs)

pub same_numbers_told : (xs ys : List ℕ) → same_numbers_in xs ys ≡ true → xs ≡ ys
same_numbers_told [] [] e = refl
same_numbers_told [] (y ∷ ys) e = cc
same_numbers_told (x ∷ xs) [] e = cc
same_numbers_told (x ∷ xs) (y ∷ ys) e =
    let parts = both (nat_eq x y) (same_numbers_in xs ys) e in
    λ i. eqb-true x y parts.0 i ∷ same_numbers_told xs ys parts.1 i
