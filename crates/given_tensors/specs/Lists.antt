-- Lists of all components, compared number by number.
--   AreSame         the numbers of one are those of the other with a sign, at the first n places
--   IsFirstApart    the first of the n places at which they aren't
use Rattle.std.specs.Prelude.{◌≡◌, ◌≢◌, ℕ, ◌<◌, List, get_or}
use Rattle.tensor_defs.specs.Number.{Root3}
use Rattle.tensor_defs.specs.declared.Sign.{Sign}
use Rattle.root3_num.specs.Roots.{value_of_root}
use Rattle.sign_moves.specs.Signs.{signed}
use Rattle.tensor_action.specs.Acting.{zero_root}

abbrev pub AreSame : ℕ → Sign → List Root3 → List Root3 → Type 0
AreSame n s rs ts = (c : ℕ) → c < n → value_of_root (get_or rs c zero_root) ≡ signed s (value_of_root (get_or ts c zero_root))

pub record IsFirstApart (n : ℕ) (s : Sign) (rs ts : List Root3) (c : ℕ) : Type 0 where
  pub below : c < n
  pub differ : value_of_root (get_or rs c zero_root) ≢ signed s (value_of_root (get_or ts c zero_root))
  pub earlier : AreSame c s rs ts
