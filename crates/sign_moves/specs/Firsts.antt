-- Tables that have at each component the first one of its class in an order.
--   IsStrict        a strict order of numbers
--   IsFirstTable    for each component the first one of its class, the sign with which it is carried there, and
--                   whether each list that is kept is zero there
--   AreSettled      first components lead to themselves, and vanish together with those that lead to them
use Rattle.std.specs.Prelude.{◌≡◌, ℕ, ◌<◌, Bool, List, length, true, false}
use Rattle.tensor_defs.specs.Number.{Number, num_zero}
use Rattle.sign_moves.specs.declared.classes.Entry.{Entry}
use Rattle.tensor_defs.specs.declared.Sign.{Sign}
use Rattle.tensor_defs.specs.declared.Sign.TheVariants.{Plus}
use Rattle.sign_moves.specs.Signs.{times}
use Rattle.sign_moves.specs.Moves.{Moves, IsKept, Reaches}
use Rattle.sign_moves.specs.Classes.{first_at, sign_at, vanishes_at}

pub record IsStrict (before : ℕ → ℕ → Bool) : Type 0 where
  pub irreflexive : (c : ℕ) → before c c ≡ false
  pub transitive : (c d e : ℕ) → before c d ≡ true → before d e ≡ true → before c e ≡ true

pub record IsFirstTable (n : ℕ) (m : Moves) (before : ℕ → ℕ → Bool) (es : List Entry) : Type 0 where
  pub len : length es ≡ n
  pub below : (c : ℕ) → c < n → first_at es c < n
  pub forced : (c : ℕ) → c < n → vanishes_at es c ≡ true → (t : ℕ → Number) → IsKept n m t → t c ≡ num_zero
  pub follows : (k c : ℕ) → k < m.count → c < n → vanishes_at es (m.carried k c) ≡ vanishes_at es c
  pub joins : (k c : ℕ) → k < m.count → c < n → first_at es (m.carried k c) ≡ first_at es c
  pub clean : (k c : ℕ) → k < m.count → c < n → vanishes_at es c ≡ false → sign_at es c ≡ times (m.sign k c) (sign_at es (m.carried k c))
  pub reached : (c : ℕ) → c < n → (u : Sign) × Reaches m c (first_at es c) u
  pub least : (c e : ℕ) → c < n → e < n → first_at es e ≡ first_at es c → before e (first_at es c) ≡ false
  pub own_first : (c : ℕ) → c < n → first_at es (first_at es c) ≡ first_at es c
  pub own_sign : (c : ℕ) → c < n → sign_at es (first_at es c) ≡ Plus

pub record AreSettled (n : ℕ) (es : List Entry) : Type 0 where
  pub len : length es ≡ n
  pub below : (c : ℕ) → c < n → first_at es c < n
  pub own : (c : ℕ) → c < n → first_at es (first_at es c) ≡ first_at es c
  pub together : (c : ℕ) → c < n → vanishes_at es (first_at es c) ≡ vanishes_at es c
