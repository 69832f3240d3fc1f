use Rattle.dialects.specs.Searches.{IsPast}
use Rattle.dialects.proofs.FirstNames.{NamedBelow}
use Rattle.dialects.proofs.class_names.read_name.Given as goal

abbrev pub invariant-loop-number : goal.invariant-loop-number
invariant-loop-number l = IsPast (NamedBelow l.number) l.word l.place
