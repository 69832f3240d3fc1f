use Rattle.std.proofs.Common.{ℕ, ◌<◌, get_or}
use Rattle.tensor_defs.specs.Prelude.{identity, index_of}
use Rattle.tensor_rank.specs.Flags.{marks_of}
use Rattle.constraint_rows.specs.Marking.{Kills}
use Rattle.constraint_rows.proofs.axis.killed_by_diagonal.Given as goal

abbrev pub invariant-loop-place : goal.invariant-loop-place
invariant-loop-place g l = record {
  none : (k : ℕ) → k < l.place → Kills (marks_of l.flags) (index_of g.R.Rank.R l.c) (get_or l.group k identity) → ⊥;
}
