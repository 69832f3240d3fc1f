use Rattle.std.proofs.Common.{arith}
use Rattle.group_closing.proofs.Digits.{both_within, not_within}
use Rattle.group_closing.proofs.marks.Marks.is_within.Goals as goal

pub returns-then-self-others-eq0 : goal.returns-then-self-others-eq0
returns-then-self-others-eq0 c =
    both_within c.self.inside.unprimed c.self.inside.primed c.others.inside.unprimed c.others.inside.primed
    (omega arith) (omega arith) (omega arith) (omega arith) c.args.self.now c.args.others.now c.self.view_is c.others.view_is c.if-self-others-eq0.true

pub returns-else-self-others-eq0 : goal.returns-else-self-others-eq0
returns-else-self-others-eq0 c =
    not_within c.self.inside.unprimed c.self.inside.primed c.others.inside.unprimed c.others.inside.primed
    (omega arith) (omega arith) c.args.self.now c.args.others.now c.self.view_is c.others.view_is c.if-self-others-eq0.false
