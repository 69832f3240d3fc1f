use Rattle.std.proofs.Common.{◌≡◌, take}
use Rattle.group_closing.proofs.found.Found.of.Given as goal

abbrev pub invariant-loop-operation : goal.invariant-loop-operation
invariant-loop-operation l = l.found ≡ take l.operation-index l.operations
