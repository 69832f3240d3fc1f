use Rattle.std.proofs.Common.{length, ◌-◌}
use Rattle.jahn_grammar.specs.Trees.{atom_of}
use Rattle.jahn_grammar.proofs.AtomReads.{Entered, Grown}
use Rattle.jahn_grammar.proofs.read.read_atom.Given as goal

abbrev pub invariant-loop-depth : goal.invariant-loop-depth
invariant-loop-depth l = Entered l.word l.depth

abbrev pub decreases-loop-depth : goal.decreases-loop-depth
decreases-loop-depth l = length l.word - l.depth

abbrev pub invariant-loop-open : goal.invariant-loop-open
invariant-loop-open l = Grown l.word l.open l.at (atom_of l.atom)
