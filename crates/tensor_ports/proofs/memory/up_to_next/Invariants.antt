use Rattle.std.proofs.Common.{◌<◌, ◌≤◌, take}
use Rattle.tensor_ports.specs.Places.{IsMost, PassesNone}
use Rattle.tensor_ports.proofs.memory.up_to_next.Given as goal

abbrev pub invariant-loop-stop : goal.invariant-loop-stop
invariant-loop-stop l = record {
  furthest : IsMost (λ n. (n ≤ l.most) × PassesNone (take l.stop-index l.stops) l.at n) l.far;
  within : l.far ≤ l.most;
  some : 0 < l.most → 0 < l.far;
}
