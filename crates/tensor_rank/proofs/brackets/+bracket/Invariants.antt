use Rattle.std.proofs.Common.{◌≡◌, ◌+◌, ◌*◌, ◌++◌}
use Rattle.jahn_grammar.specs.Trees.{atom_of}
use Rattle.tensor_rank.specs.Symmetry.{at_each, atom_exchanges, bracket_at, neighbours}
use Rattle.tensor_rank.proofs.brackets.+bracket.Given as goal

abbrev pub decreases-push_atom : goal.decreases-push_atom
decreases-push_atom l = 2 * goal.size-push_atom l

abbrev pub decreases-push_bracket : goal.decreases-push_bracket
decreases-push_bracket l = 2 * goal.size-push_bracket l + 1

abbrev pub invariant-push_bracket-loop-k : goal.invariant-push_bracket-loop-k
invariant-push_bracket-loop-k l =
    l.out.items ≡ l.fn.out.items ++
    (neighbours (bracket_at l.start l.width l.negates) l.count ++ at_each (atom_exchanges (atom_of l.inner)) l.start l.width l.k)
