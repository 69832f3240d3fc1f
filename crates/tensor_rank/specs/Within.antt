-- Exchanges whose blocks lie apart and among the index places.
--   IsWithin        the blocks of one exchange do
--   exchange_at     the exchange at a place of a list
--   AllWithin       the blocks of each exchange do
use Rattle.std.specs.Prelude.{ℕ, ◌+◌, ◌<◌, ◌≤◌, List, length, get_or, false}
use Rattle.tensor_rank.specs.declared.exchanges.Exchange.{Exchange}

-- the first block lies before the second, and both among r places
pub record IsWithin (r : ℕ) (e : Exchange) : Type 0 where
  pub apart : e.first + e.width ≤ e.second
  pub inside : e.second + e.width ≤ r

abbrev pub exchange_at : List Exchange → ℕ → Exchange
exchange_at es k = get_or es k (record { first = 0; second = 0; width = 0; negates = false })

pub record AllWithin (r : ℕ) (es : List Exchange) : Type 0 where
  pub each : (k : ℕ) → k < length es → IsWithin r (exchange_at es k)
