-- Moves written out for each component.
--   step_at, steps_at    a step of a move; the steps of a move
--   IsStepRow, IsTabled  the steps of one move at each component; of all moves
use Rattle.std.specs.Prelude.{◌≡◌, ℕ, ◌<◌, List, [], length, get_or}
use Rattle.tensor_defs.specs.declared.Sign.TheVariants.{Plus}
use Rattle.sign_moves.specs.Moves.{Moves}
use Rattle.sign_moves.specs.declared.tabled.Step.{Step}

abbrev pub step_at : List Step → ℕ → Step
step_at row c = get_or row c (record { to = 0; sign = Plus })

-- the steps of the move k from each component
pub record IsStepRow (n : ℕ) (m : Moves) (k : ℕ) (row : List Step) : Type 0 where
  pub len : length row ≡ n
  pub to : (c : ℕ) → c < n → (step_at row c).to ≡ m.carried k c
  pub sign : (c : ℕ) → c < n → (step_at row c).sign ≡ m.sign k c

abbrev pub steps_at : List (List Step) → ℕ → List Step
steps_at rows k = get_or rows k []

pub record IsTabled (n : ℕ) (m : Moves) (rows : List (List Step)) : Type 0 where
  pub len : length rows ≡ m.count
  pub each : (k : ℕ) → k < m.count → IsStepRow n m k (steps_at rows k)
