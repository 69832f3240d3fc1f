-- The code's trees as Jahn symbols.
--   atom_of, factor_of, factors_of    an atom, a factor, and factors of the code as those of the definitions
--   AreFactorTrees  the powers of factors are 1 to 6, and those in their brackets 2 to 6
use Rattle.std.specs.Prelude.{List, map}
use Rattle.tensor_defs.specs.Jahn as defs
use Rattle.jahn_grammar.specs.declared.Atom.{Atom, V, Sym', Anti'}
use Rattle.jahn_grammar.specs.declared.Factor.{Factor}

abbrev pub atom_of : Atom → defs.Atom
atom_of V = defs.V
atom_of (Sym' held a p) = defs.Bracketed defs.Symmetric (atom_of a) p
atom_of (Anti' held a p) = defs.Bracketed defs.Antisymmetric (atom_of a) p

abbrev pub factor_of : Factor → defs.Factor
factor_of f = record { atom = atom_of f.atom; power = f.power }

abbrev pub factors_of : List Factor → List defs.Factor
factors_of fs = map factor_of fs

abbrev pub AreFactorTrees : List Factor → Type 0
AreFactorTrees fs = defs.AreFactors (factors_of fs)
