-- The Jahn symbol of a tree of the code.
--   symbol_of       its marks and its factors
use Rattle.tensor_defs.specs.Jahn.{JahnSymbol}
use Rattle.jahn_grammar.specs.declared.Jahn.{Jahn}
use Rattle.jahn_grammar.specs.Trees.{factors_of}

abbrev pub symbol_of : Jahn → JahnSymbol
symbol_of j = record { marks = record { axial = j.axial; magnetic = j.magnetic }; factors = factors_of j.body }
