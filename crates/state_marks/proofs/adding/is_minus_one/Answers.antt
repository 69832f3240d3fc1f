use Rattle.std.proofs.Common.{sym, ◌∙◌}
use Rattle.state_marks.proofs.Parts.{minus_one_told}
use Rattle.state_marks.proofs.adding.is_minus_one.Goals as goal

pub returns : goal.returns
returns c = λ true. minus_one_told c.args.number.now c.neg.result c.neg.ensures.value (sym c.is_one_part.ensures ∙ true)
