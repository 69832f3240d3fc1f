use Rattle.std.proofs.Common.{ℕ, ◌+◌, ◌-◌, ◌*◌, ◌<◌, ◌++◌, ◌∷◌, [], length}
use Rattle.std.specs.Prelude.{slice_index_or}
use Rattle.tensor_defs.specs.Operation.{Operation}
use Rattle.group_closing.specs.Joining.{AreCosets}
use Rattle.group_closing.specs.Marks.{unmarked, IsDone}
use Rattle.group_closing.proofs.joining.join.Given as goal

abbrev pub invariant-loop-next : goal.invariant-loop-next
invariant-loop-next l =
    AreCosets (l.generators ++ l.more ∷ []) l.order l.firsts l.marks l.found
    × ((i : ℕ) (d : Operation) → i < l.next → IsDone (l.generators ++ l.more ∷ []) l.marks (slice_index_or l.firsts i d))

abbrev pub decreases-loop-next : goal.decreases-loop-next
decreases-loop-next l = 2 * unmarked l.marks + length l.firsts - l.next
