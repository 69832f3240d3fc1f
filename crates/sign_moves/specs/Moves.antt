-- Moves carry components to components with signs.
--   Moves           how many moves there are, where each carries a component, and with which sign
--   Reaches         some moves in turn carry one component to another
--   IsReversible    from where a move leads, moves lead back
--   IsKept          a component list that no move changes, up to its signs
--   IsForced        each list that the moves keep is zero at a component
--   IsFirst         the first component in an order to which moves carry another, and the sign between the two
use Rattle.std.specs.Prelude.{◌≡◌, ℕ, ◌<◌, Bool, false}
use Rattle.tensor_defs.specs.Number.{Number, num_zero}
use Rattle.tensor_defs.specs.declared.Sign.{Sign}
use Rattle.tensor_defs.specs.declared.Sign.TheVariants.{Plus}
use Rattle.sign_moves.specs.Signs.{times, signed}

-- how many moves there are, where each carries a component, and with which sign
pub record Moves : Type 0 where
  pub count : ℕ
  pub carried : ℕ → ℕ → ℕ
  pub sign : ℕ → ℕ → Sign

-- some moves in turn carry one component to another, with a sign
pub data Reaches (m : Moves) : ℕ → ℕ → Sign → Type 0 where
  stay : {c : ℕ} → Reaches m c c Plus
  move : {c d : ℕ} {s u : Sign} → (k : ℕ) → k < m.count → Reaches m (m.carried k c) d s → u ≡ times (m.sign k c) s → Reaches m c d u

-- moves of the components below n, from each of which moves lead back
pub record IsReversible (n : ℕ) (m : Moves) : Type 0 where
  pub stays : (k c : ℕ) → k < m.count → c < n → m.carried k c < n
  pub back : (k c : ℕ) → k < m.count → c < n → (s : Sign) × Reaches m (m.carried k c) c s

-- no move changes a component list, up to its sign
pub record IsKept (n : ℕ) (m : Moves) (t : ℕ → Number) : Type 0 where
  pub same : (k c : ℕ) → k < m.count → c < n → t c ≡ signed (m.sign k c) (t (m.carried k c))

-- each list that the moves keep is zero at c
pub record IsForced (n : ℕ) (m : Moves) (c : ℕ) : Type 0 where
  pub zero : (t : ℕ → Number) → IsKept n m t → t c ≡ num_zero

-- d is the first component to which moves carry c, and s the sign between the two in each list that the moves keep
pub record IsFirst (n : ℕ) (m : Moves) (before : ℕ → ℕ → Bool) (c d : ℕ) (s : Sign) : Type 0 where
  pub below : d < n
  pub reached : (u : Sign) × Reaches m c d u
  pub first : (e : ℕ) (u : Sign) → Reaches m c e u → before e d ≡ false
  pub same : (t : ℕ → Number) → IsKept n m t → t c ≡ signed s (t d)
