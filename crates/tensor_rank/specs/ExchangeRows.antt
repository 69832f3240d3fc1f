-- Exchanges of blocks at each component of a rank.
--   exchange_part   what each digit at a place contributes to where an exchange carries a component
--   IsExchangeRow   where an exchange carries each component, with its sign
use Rattle.std.specs.Prelude.{◌≡◌, ℕ, ◌-◌, ◌*◌, ◌^◌, ◌<◌, List, [], ◌∷◌, length}
use Rattle.tensor_rank.specs.declared.exchanges.Exchange.{Exchange}
use Rattle.tensor_defs.specs.declared.Sign.TheVariants.{Plus}
use Rattle.sign_moves.specs.declared.tabled.Step.{Step}
use Rattle.sign_moves.specs.Tabling.{step_at}
use Rattle.tensor_rank.specs.Exchanges.{partner, exchanged, sign_of_exchange}

abbrev pub exchange_part : ℕ → Exchange → ℕ → List Step
exchange_part r e k =
    record { to = 0; sign = Plus } ∷ record { to = 3 ^ (r - 1 - partner e k); sign = Plus } ∷ record { to = 2 * 3 ^ (r - 1 - partner e k); sign = Plus } ∷ []

pub record IsExchangeRow (r : ℕ) (e : Exchange) (row : List Step) : Type 0 where
  pub len : length row ≡ 3 ^ r
  pub to : (c : ℕ) → c < 3 ^ r → (step_at row c).to ≡ exchanged r e c
  pub sign : (c : ℕ) → c < 3 ^ r → (step_at row c).sign ≡ sign_of_exchange e
