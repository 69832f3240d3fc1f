-- Moves that carry each index digit of a component by itself. A digit 0, 1 or 2 stands for the index 1, 2 or 3, and the
-- first index is the most significant.
--   part_at         what a digit at a place contributes: a number to where the component is carried, and a sign
--   AreParts        parts whose numbers are small
--   joined_step     the sum of two numbers, and the product of two signs
--   digit_step      the parts of the digits at the first places of a component together
--   IsDigitRow      these at each component
--   longer_step     the steps of a row with one index digit more
--   IsSpread        these, for steps by their numbers
use Rattle.std.specs.Prelude.{◌≡◌, ℕ, ◌+◌, ◌*◌, ◌/◌, ◌%◌, ◌^◌, ◌<◌, ◌≤◌, List, [], length, get_or}
use Rattle.std.proofs.Common.{zero, suc}
use Rattle.tensor_defs.specs.declared.Sign.{Sign}
use Rattle.sign_moves.specs.declared.tabled.Step.{Step}
use Rattle.sign_moves.specs.Signs.{times}
use Rattle.sign_moves.specs.Tabling.{step_at}

abbrev pub part_at : List (List Step) → ℕ → ℕ → Step
part_at parts k d = step_at (get_or parts k []) d

pub record AreParts (parts : List (List Step)) : Type 0 where
  pub small : (k d : ℕ) → k < length parts → d < 3 → (part_at parts k d).to ≤ 1000

abbrev pub joined_step : Step → Step → Step
joined_step s t = record { to = s.to + t.to; sign = times s.sign t.sign }

-- the parts of the digits at the first k places, of a component of rank k
unfoldable pub digit_step : List (List Step) → Sign → ℕ → ℕ → Step
digit_step parts whole zero c = record { to = 0; sign = whole }
digit_step parts whole (suc k) c = joined_step (digit_step parts whole k (c / 3)) (part_at parts k (c % 3))

pub record IsDigitRow (parts : List (List Step)) (whole : Sign) (k : ℕ) (row : List Step) : Type 0 where
  pub len : length row ≡ 3 ^ k
  pub each : (c : ℕ) → c < 3 ^ k → step_at row c ≡ digit_step parts whole k c

abbrev pub longer_step : List Step → List Step → ℕ → Step
longer_step row part i = joined_step (step_at row (i / 3)) (step_at part (i % 3))

pub record IsSpread (steps : ℕ → Step) (count : ℕ) (part longer : List Step) : Type 0 where
  pub len : length longer ≡ 3 * count
  pub each : (i d : ℕ) → i < count → d < 3 → step_at longer (3 * i + d) ≡ joined_step (steps i) (step_at part d)
