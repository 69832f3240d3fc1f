-- The index digits of a component, the first index the most significant. A digit 0, 1 or 2 stands for the index 1, 2 or 3.
--   digit_of        the digit of a component number at a place
--   number_of       the component number of digits
use Rattle.std.specs.Prelude.{ℕ, ◌+◌, ◌-◌, ◌*◌, ◌/◌, ◌%◌, ◌^◌}
use Rattle.std.proofs.Common.{zero, suc}

-- the digit of a component number at a place, for a rank
abbrev pub digit_of : ℕ → ℕ → ℕ → ℕ
digit_of r c p = c / 3 ^ (r - 1 - p) % 3

-- the component number of the digits at the first places
unfoldable pub number_of : ℕ → (ℕ → ℕ) → ℕ
number_of zero f = 0
number_of (suc k) f = 3 * number_of k f + f k
