use Rattle.std.proofs.Common.{map, string_bytes, take}
use Rattle.tool_runs.specs.Tools.{NoneLong}
use Rattle.tool_runs.proofs.refusals.first_long.Given as goal

abbrev pub invariant-loop-place : goal.invariant-loop-place
invariant-loop-place l = NoneLong (map string_bytes (take l.place l.words))
