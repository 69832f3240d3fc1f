use Rattle.std.proofs.Common.{length, ◌-◌}
use Rattle.jahn_grammar.proofs.Atoms.{Opened, Closed}
use Rattle.jahn_grammar.proofs.scan.scan_atom.Given as goal

abbrev pub invariant-loop-depth : goal.invariant-loop-depth
invariant-loop-depth l = Opened l.word l.depth

abbrev pub decreases-loop-depth : goal.decreases-loop-depth
decreases-loop-depth l = length l.word - l.depth

abbrev pub invariant-loop-open : goal.invariant-loop-open
invariant-loop-open l = Closed l.word l.open l.at l.rank
