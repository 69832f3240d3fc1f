use Rattle.std.specs.Prelude.{◌<◌, ℕ, Contains, slice_index_or}
use Rattle.tensor_defs.specs.Operation.{Operation}
use Rattle.group_names.proofs.holds_all.Given as goal

abbrev pub invariant-loop-operation : goal.invariant-loop-operation
invariant-loop-operation l = (q : ℕ) (d : Operation) → q < l.operation-index → Contains l.group (slice_index_or l.operations q d)
