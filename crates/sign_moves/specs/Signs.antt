-- Products of signs.
--   times           the product of two signs
--   signed          a number, or its negative
use Rattle.std.specs.Prelude.{◌≡◌, refl}
use Rattle.tensor_defs.specs.Number.{Number, neg}
use Rattle.tensor_defs.specs.declared.Sign.{Sign}
use Rattle.tensor_defs.specs.declared.Sign.TheVariants.{Plus, Minus}

abbrev pub times : Sign → Sign → Sign
times Plus s = s
times Minus Plus = Minus
times Minus Minus = Plus

pub times_plus : (s : Sign) → times s Plus ≡ s
times_plus Plus = refl
times_plus Minus = refl

pub times-times : (s t u : Sign) → times (times s t) u ≡ times s (times t u)
times-times Plus t u = refl
times-times Minus Plus u = refl
times-times Minus Minus Plus = refl
times-times Minus Minus Minus = refl

pub times_self : (s : Sign) → times s s ≡ Plus
times_self Plus = refl
times_self Minus = refl

-- the number, or its negative
abbrev pub signed : Sign → Number → Number
signed Plus x = x
signed Minus x = neg x
