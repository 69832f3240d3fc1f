use Rattle.std.proofs.Common.{◌≡◌}
use Rattle.group_closing.specs.Greedy.{IsDoubled}
use Rattle.group_closing.proofs.greedy.Span.double.Given as goal

abbrev pub invariant-loop-place : goal.invariant-loop-place
invariant-loop-place l =
    (l.self.taken ≡ l.initial.self.taken)
    × IsDoubled l.initial.self.taken l.operation l.place l.initial.self.marks l.initial.self.found l.self.marks l.self.found
