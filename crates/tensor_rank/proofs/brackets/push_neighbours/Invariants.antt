use Rattle.std.proofs.Common.{◌≡◌, ◌++◌, map}
use Rattle.tensor_rank.specs.Symmetry.{bracket_at, exchange_of}
use Rattle.tensor_rank.proofs.brackets.push_neighbours.Given as goal

abbrev pub invariant-loop-one : goal.invariant-loop-one
invariant-loop-one l =
    (goal.iterator-loop-one).can_next l.one-iterator ×
    (goal.iterator-loop-one).is_finite l.one-iterator ×
    (l.out.items ≡ l.fn.out.items ++ map (λ w. exchange_of (bracket_at l.start l.width l.negates) w.0 w.1) l.yielded)
