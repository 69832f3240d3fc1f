use Rattle.generated_runs.proofs.Counting.{count_answered, count_refused}
use Rattle.generated_runs.proofs.counts.Counts.count.Goals as goal

pub returns-in-Answered-clause-counts : goal.returns-in-Answered-clause-counts
returns-in-Answered-clause-counts c = λ os are.
    count_answered os c.args.outcome c.in-Answered.kind c.in-Answered.free c.place_of.result c.args.self.now c.in-Answered.is
    c.place_of.ensures.place are

pub returns-in-Refused-clause-counts : goal.returns-in-Refused-clause-counts
returns-in-Refused-clause-counts c = λ os are.
    count_refused os c.args.outcome c.in-Refused.refusal c.place_among.result c.args.self.now c.in-Refused.is
    c.place_among.ensures.place are
