use Rattle.curie_runs.proofs.NameLaws.{Tried}
use Rattle.curie_runs.proofs.names.read_curie.Given as goal

abbrev pub invariant-loop-place : goal.invariant-loop-place
invariant-loop-place l = Tried l.word l.place l.furthest
