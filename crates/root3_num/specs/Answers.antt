-- What the operations on numbers a + b√3 answer.
--   IsExactSum        the number's parts, or the refusal exactly where a part reaches the limit
--   IsExactProduct    the product's parts, or the refusal exactly where a step of the product reaches the limit
-- Source: this project's own.
use Rattle.std.specs.Prelude.{Result, Ok, Err}
use Rattle.tensor_defs.specs.Number.{Number, mul, Root3, PartReaches, ProductReaches}
use Rattle.root3_num.specs.Roots.{IsHeldRoot}
use Rattle.root3_num.specs.declared.root.TooLarge.{TooLarge}

abbrev pub IsExactSum : Number → Result Root3 TooLarge → Type 0
IsExactSum x (Ok r) = IsHeldRoot x r × (PartReaches x → ⊥)
IsExactSum x (Err e) = PartReaches x

abbrev pub IsExactProduct : Number → Number → Result Root3 TooLarge → Type 0
IsExactProduct x y (Ok r) = IsHeldRoot (mul x y) r × (ProductReaches x y → ⊥)
IsExactProduct x y (Err e) = ProductReaches x y
