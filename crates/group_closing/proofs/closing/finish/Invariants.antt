use Rattle.std.proofs.Common.{◌+◌, ◌-◌, ◌*◌, length}
use Rattle.group_closing.specs.Marks.{unmarked, Grows, IsClosed}
use Rattle.group_closing.proofs.closing.finish.Given as goal

abbrev pub invariant-loop-next : goal.invariant-loop-next
invariant-loop-next l =
    IsClosed l.generators l.next l.marks l.found × Grows l.initial.marks l.initial.found l.marks l.found

abbrev pub decreases-loop-next : goal.decreases-loop-next
decreases-loop-next l = 2 * unmarked l.marks + length l.found - l.next
