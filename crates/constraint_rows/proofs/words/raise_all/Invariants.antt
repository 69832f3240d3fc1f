use Rattle.std.proofs.Common.{◌≡◌, ◌++◌, drop, map, take}
use Rattle.constraint_rows.specs.Gathering.{raised}
use Rattle.constraint_rows.proofs.words.raise_all.Given as goal

abbrev pub invariant-loop-place : goal.invariant-loop-place
invariant-loop-place l = l.terms.items ≡ map (raised l.by 0) (take l.place l.fn.terms.items) ++ drop l.place l.fn.terms.items
