use Rattle.std.proofs.Common.{◌≡◌, ◌++◌}
use Rattle.tensor_defs.specs.Jahn.{atom_rank}
use Rattle.jahn_grammar.specs.Trees.{atom_of}
use Rattle.tensor_rank.specs.Symmetry.{at_each, atom_exchanges}
use Rattle.tensor_rank.proofs.brackets.push_factor.Given as goal

abbrev pub invariant-loop-k : goal.invariant-loop-k
invariant-loop-k l =
    l.out.items ≡ l.fn.out.items ++ at_each (atom_exchanges (atom_of l.factor.atom)) l.start (atom_rank (atom_of l.factor.atom)) l.k
