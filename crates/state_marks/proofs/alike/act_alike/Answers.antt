use Rattle.std.proofs.Common.{◌∙◌, ap, sym}
use Rattle.sign_moves.specs.Signs.{times}
use Rattle.tensor_rank.specs.Flags.{marks_of}
use Rattle.state_marks.proofs.AlikeLaws.{alike, same_signs}
use Rattle.state_marks.proofs.alike.act_alike.Goals as goal

pub returns-in-Plus : goal.returns-in-Plus
returns-in-Plus g c = λ _.
    alike (marks_of c.args.flags) g.R.Rank.R c.args.g.now c.args.h.now c.in-Some.sign c.sign_of-in-Some.result c.sign_of.result
    c.in-Some.ensures c.sign_of-in-Some.ensures c.sign_of.ensures
    (same_signs c.sign_of-in-Some.result c.times-carried.result (sym c.times.ensures ∙ c.in-Plus.is) ∙ c.times-carried.ensures
    ∙ ap (times c.sign_of.result) c.power.ensures)
