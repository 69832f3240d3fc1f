use Rattle.std.proofs.Common.{◌≡◌, ◌+◌, drop}
use Rattle.tensor_defs.specs.Jahn.{rank, factors_rank}
use Rattle.jahn_grammar.specs.Trees.{factors_of}
use Rattle.jahn_grammar.specs.Symbols.{symbol_of}
use Rattle.jahn_grammar.proofs.Jahn.rank.Given as goal

abbrev pub invariant-loop-place : goal.invariant-loop-place
invariant-loop-place l = l.sum + factors_rank (factors_of (drop l.place l.self.body)) ≡ rank (symbol_of l.self)
