use Rattle.dialects.specs.Searches.{IsPast}
use Rattle.dialects.proofs.Patterns.{PrimesBelow}
use Rattle.dialects.proofs.search.read_in_setting.Given as goal

abbrev pub invariant-loop-primes : goal.invariant-loop-primes
invariant-loop-primes l = IsPast (PrimesBelow l.place l.setting l.primes) l.word l.furthest
