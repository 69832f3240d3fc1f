-- A fact about each number below a bound, by computing.
--   all_below                     the test holds at 0 up to n - 1
--   below_told, below_told_2      it holds at each of these; at two bounds
use Rattle.std.proofs.Common.{◌≡◌, ℕ, zero, suc, ◌<◌, Bool, true, false, sym, arith, subst, cond, inl, inr}
use Rattle.std.proofs.lemmas.Bool.{cases_eq}
use Rattle.list_laws.proofs.Tests.{both}

abbrev pub all_below : ℕ → (ℕ → Bool) → Bool
all_below zero p = true
all_below (suc n) p = cond (p n) (all_below n p) false

pub below_told : (n : ℕ) (p : ℕ → Bool) → all_below n p ≡ true → (k : ℕ) → k < n → p k ≡ true
below_told zero p e k h = absurd (omega arith)
below_told (suc n) p e k h = elim (cases_eq k n) as (λ _. p k ≡ true) [
  | inl same ↦ subst (λ x. p x ≡ true) (sym same) (both (p n) (all_below n p) e).0
  | inr other ↦ below_told n p (both (p n) (all_below n p) e).1 k (omega arith)
]

pub below_told_2 : (n m : ℕ) (p : ℕ → ℕ → Bool) → all_below n (λ a. all_below m (p a)) ≡ true → (a b : ℕ) → a < n →
    b < m → p a b ≡ true
below_told_2 n m p e a b h k = below_told m (p a) (below_told n (λ a. all_below m (p a)) e a h) b k
