-- Which words give rows.
--   is_turning      some rotation about z changes the word's sum, and its first letter other than z is +
--   is_chosen       the words for the threefold rotation about z, and those for all rotations about z
-- Source: a rotation about z multiplies the sum of a word by a unit number; this project's own form of it.
use Rattle.std.specs.Prelude.{Bool, false, cond, nat_eq}
use Rattle.tensor_defs.specs.Words.{Word, begins_plus, is_used, minus_count, plus_count}
use Rattle.constraint_rows.specs.declared.choosing.Rotations.{Rotations}
use Rattle.constraint_rows.specs.declared.choosing.Rotations.TheVariants.{Threefold, All}

-- the count of + isn't that of -, and the first letter other than z is +
abbrev pub is_turning : Word → Bool
is_turning w = cond (nat_eq (plus_count w) (minus_count w)) false (begins_plus w)

abbrev pub is_chosen : Rotations → Word → Bool
is_chosen Threefold = is_used
is_chosen All = is_turning
