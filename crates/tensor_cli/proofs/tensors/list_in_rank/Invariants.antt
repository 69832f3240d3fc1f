use Rattle.std.proofs.Common.{◌≤◌, take}
use Rattle.tensor_defs.specs.Prelude.{rank, Each}
use Rattle.tensor_cli.specs.Kinds.{IsTold}
use Rattle.tensor_cli.proofs.tensors.list_in_rank.Given as goal

abbrev pub invariant-loop-place : goal.invariant-loop-place
invariant-loop-place l = IsTold l.line l.list (λ js. Each (λ j. rank j.jahn ≤ 6) (take l.place js))
