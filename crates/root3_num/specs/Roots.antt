-- Numbers a + b√3 that the program holds.
--   value_of_root    the number of two fractions a and b
--   IsHeldRoot       the number is a + b√3, in lowest terms, and both fractions can be held
--   AreHeld          both fractions can be held
-- Source: the field Q(√3). The limit is this project's own.
use Rattle.tensor_defs.specs.Number.{Number, add, mul, root_3, value_of, Root3, IsRoot3}
use Rattle.exact_frac.specs.Held.{IsHeld}

abbrev pub value_of_root : Root3 → Number
value_of_root r = add (value_of r.a) (mul (value_of r.b) root_3)

pub record AreHeld (r : Root3) : Type 0 where
  pub held_a : IsHeld r.a
  pub held_b : IsHeld r.b

pub record IsHeldRoot (x : Number) (r : Root3) : Type 0 where
  pub is_root : IsRoot3 x r
  pub held : AreHeld r
