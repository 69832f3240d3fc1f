use Rattle.std.proofs.Common.{ℕ, ◌<◌, ◌≢◌}
use Rattle.std.specs.Prelude.{slice_index_or}
use Rattle.tensor_defs.specs.Operation.{Operation}
use Rattle.op_matrix.specs.Table.{place}
use Rattle.magnetic_groups.proofs.Group.place_of.Given as goal

abbrev pub invariant-loop-place : goal.invariant-loop-place
invariant-loop-place l = (j : ℕ) (d : Operation) → j < l.place →
    place (slice_index_or l.self-inside.elements.items j d) ≢ place l.op
