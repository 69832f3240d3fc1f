use Rattle.std.specs.Prelude.{◌<◌, ℕ, slice_index_or, Contains}
use Rattle.tensor_defs.specs.Operation.{Operation, IsProduct}
use Rattle.twin_pairs.proofs.is_swappable.Given as goal

abbrev pub invariant-loop-place : goal.invariant-loop-place
invariant-loop-place l = (q : ℕ) (d y z : Operation) → q < l.place → IsProduct l.element (slice_index_or l.states.sub q d) y → IsProduct y l.element z → ¬ Contains l.states.sub z
