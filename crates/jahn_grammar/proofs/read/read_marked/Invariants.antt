use Rattle.std.proofs.Common.{length, ◌-◌}
use Rattle.jahn_grammar.proofs.TreeReads.{Taken}
use Rattle.jahn_grammar.proofs.read.read_marked.Given as goal

abbrev pub invariant-loop-at : goal.invariant-loop-at
invariant-loop-at l = Taken l.word l.at l.items.items l.axial l.magnetic

abbrev pub decreases-loop-at : goal.decreases-loop-at
decreases-loop-at l = length l.word - l.at
