use Rattle.dialects.specs.LongTexts.{IsFormText}
use Rattle.dialects.specs.Searches.{IsPast, Below}
use Rattle.dialects.proofs.search.read_long.Given as goal

abbrev pub invariant-loop-place : goal.invariant-loop-place
invariant-loop-place l = IsPast (Below IsFormText l.place) l.word l.furthest
