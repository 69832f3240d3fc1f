-- Signed permutation matrices at each component of a rank.
--   op_part    what each digit at a place contributes to where a matrix carries a component, and to its sign
--   IsOpRow    where a matrix carries each component, with its sign
use Rattle.std.specs.Prelude.{◌≡◌, ℕ, ◌-◌, ◌*◌, ◌^◌, ◌<◌, List, [], ◌∷◌, length}
use Rattle.sign_moves.specs.declared.tabled.Step.{Step}
use Rattle.sign_moves.specs.Tabling.{step_at}
use Rattle.constraint_rows.specs.declared.ops.PlainOp.{PlainOp}
use Rattle.constraint_rows.specs.PlainOps.{image, entry_sign, op_carried, op_sign}

-- what a digit contributes at a place of a weight
abbrev pub op_step : PlainOp → ℕ → ℕ → Step
op_step op w d = record { to = image op d * w; sign = entry_sign op d }

abbrev pub op_part : ℕ → PlainOp → ℕ → List Step
op_part r op k = op_step op (3 ^ (r - 1 - k)) 0 ∷ op_step op (3 ^ (r - 1 - k)) 1 ∷ op_step op (3 ^ (r - 1 - k)) 2 ∷ []

pub record IsOpRow (r : ℕ) (op : PlainOp) (row : List Step) : Type 0 where
  pub len : length row ≡ 3 ^ r
  pub to : (c : ℕ) → c < 3 ^ r → (step_at row c).to ≡ op_carried r op c
  pub sign : (c : ℕ) → c < 3 ^ r → (step_at row c).sign ≡ op_sign r op c
