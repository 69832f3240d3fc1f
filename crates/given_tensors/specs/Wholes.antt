-- The two groups that hold every magnetic point group: on the cubic and on the hexagonal axes.
--   whole_symbol    m-3m1' and 6/mmm1'
-- Source: International Tables D 1.1.
use Rattle.std.specs.Prelude.{true}
use Rattle.tensor_defs.specs.Symbols.{GroupSymbol}
use Rattle.tensor_defs.specs.declared.Setting.TheVariants.{Default}
use Rattle.group_symbol.specs.Readings.{symbol_of}
use Rattle.given_tensors.specs.declared.wholes.Whole.{Whole}
use Rattle.given_tensors.specs.declared.wholes.Whole.TheVariants.{Cubic, Hexagonal}

abbrev pub whole_symbol : Whole → GroupSymbol
whole_symbol Cubic = symbol_of 42 0 true Default
whole_symbol Hexagonal = symbol_of 37 0 true Default
