use Rattle.std.proofs.Common.{ap, length}
use Rattle.group_closing.proofs.Reaching.{closed_none}
use Rattle.group_closing.proofs.Doubling.{span_none}
use Rattle.group_closing.proofs.greedy.Span.new.Goals as goal

pub returns-clause-span : goal.returns-clause-span
returns-clause-span c =
    span_none c.none.result c.add.new.found c.add.new.marks c.none.ensures
    (closed_none c.none.result c.none-marks.result c.add.new.marks c.none-found.result c.add.new.found c.none-marks.ensures
    (ap length c.none-marks.ensures) c.none-found.ensures (rw (← c.identity.ensures) c.add.ensures))
