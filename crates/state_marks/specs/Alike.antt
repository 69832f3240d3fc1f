-- Operations that act the same.
--   sign_power      a product of so many signs
--   AreAlike        the same factors between components of a rank
-- Source: International Tables D 1.1: the inversion multiplies a polar tensor of rank r by (-1)^r.
use Rattle.std.specs.Prelude.{◌≡◌, ℕ, zero, suc, length}
use Rattle.tensor_defs.specs.Prelude.{Operation, Index, Marks}
use Rattle.tensor_defs.specs.declared.Sign.{Sign}
use Rattle.tensor_defs.specs.declared.Sign.TheVariants.{Plus}
use Rattle.sign_moves.specs.Signs.{times}
use Rattle.tensor_action.specs.Acting.{factor}

abbrev pub sign_power : Sign → ℕ → Sign
sign_power s zero = Plus
sign_power s (suc n) = times s (sign_power s n)

abbrev pub AreAlike : Marks → ℕ → Operation → Operation → Type 0
AreAlike m r g h = (i : Index) → length i ≡ r → (j : Index) → factor m g i j ≡ factor m h i j
