use Rattle.std.proofs.Common.{◌≡◌, ◌++◌, map, take}
use Rattle.constraint_rows.specs.Gathering.{raised}
use Rattle.constraint_rows.proofs.words.push_raised.Given as goal

abbrev pub invariant-loop-place : goal.invariant-loop-place
invariant-loop-place l = l.terms.items ≡ l.fn.terms.items ++ map (raised l.by l.quarters) (take l.place l.fn.terms.items)
