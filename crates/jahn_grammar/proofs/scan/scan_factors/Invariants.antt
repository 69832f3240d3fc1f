use Rattle.std.proofs.Common.{length, ◌-◌}
use Rattle.jahn_grammar.proofs.Scans.{Scanned}
use Rattle.jahn_grammar.proofs.scan.scan_factors.Given as goal

abbrev pub invariant-loop-at : goal.invariant-loop-at
invariant-loop-at l = Scanned l.word l.at l.rank

abbrev pub decreases-loop-at : goal.decreases-loop-at
decreases-loop-at l = length l.word - l.at
