use Rattle.state_marks.proofs.AlikeLaws.{value_opposite, value_same}
use Rattle.state_marks.proofs.alike.sign_between.Goals as goal

pub returns-then-first-second : goal.returns-then-first-second
returns-then-first-second c = λ i j.
    value_same c.args.g.now c.args.h.now c.place-first.result c.place-second.result c.place-first.ensures.at c.place-second.ensures.at i j
    c.if-first-second.true

pub returns-then-first-second-eq63 : goal.returns-then-first-second-eq63
returns-then-first-second-eq63 c = λ i j.
    value_opposite c.args.g.now c.args.h.now c.place-first.result c.place-second.result c.place-first.ensures.at c.place-second.ensures.at i j
    c.place-first.ensures.below c.if-first-second-eq63.true
