use Rattle.species.proofs.Counting.{IsCounting}
use Rattle.species.proofs.leaders.Leaders.different.Given as goal

abbrev pub invariant-loop-place : goal.invariant-loop-place
invariant-loop-place l = IsCounting l.self l.place l.count
