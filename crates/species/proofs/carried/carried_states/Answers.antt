use Rattle.std.proofs.Common.{inl, inr}
use Rattle.reduced_form.proofs.ToldLaws.{err_same}
use Rattle.species.proofs.StateMarks.{carried_told}
use Rattle.species.proofs.carried.carried_states.Goals as goal

pub returns-in_err-marks-clause-grows : goal.returns-in_err-marks-clause-grows
returns-in_err-marks-clause-grows g c =
    err_same c.from_residual.result c.in_err-marks.field-0.0 _ c.from_residual.ensures.1 c.in_err-marks.ensures.grows

pub returns-clause-carried : goal.returns-clause-carried
returns-clause-carried g c = λ j shape.
    let s = c.args.states.now in
    carried_told j s.whole s.sub s.reps g.R.Rank.R g.R.Rank.LEN c.in_ok-marks.marks c.in_ok-flags.flags.items
    c.count-count.ensures.groups.0 c.count-count.ensures.groups.1 c.count-count.ensures.states shape.rank_is g.R.Rank.power
    (c.in_ok-marks.ensures.ok j shape) c.in_ok-flags.ensures

pub returns-clause-calm : goal.returns-clause-calm
returns-clause-calm g c = λ j shape grows.
    let told = c.in_ok-marks.ensures.ok j shape in
    elim grows as (λ _. ⊥) [ inl h ↦ told.no_elimination h | inr h ↦ told.no_row h ]
