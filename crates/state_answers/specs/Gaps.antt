-- What stands between the numbers of a list.
--   gap             before the number at a place, counted from 0: a space, but for the first
use Rattle.std.specs.Prelude.{ℕ, zero, suc, List, [], ◌∷◌}

abbrev pub gap : ℕ → List ℕ
gap zero = []
gap (suc place) = 32 ∷ []
