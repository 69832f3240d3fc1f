use Rattle.std.proofs.lemmas.Result.{on_ok_weaker, err_from_is_err_and}
use Rattle.tensor_defs.specs.Prelude.{InGroup, AreStates}
use Rattle.magnetic_groups.specs.Sets.{In}
use Rattle.state_answers.proofs.SameSets.{states_same}
use Rattle.state_answers.proofs.Outside.{none_outside, refusal_told}
use Rattle.state_answers.proofs.states.answer_states.Goals as goal

pub returns-in_err-states-clause-refused : goal.returns-in_err-states-clause-refused
returns-in_err-states-clause-refused c =
    let told = refusal_told c.args.g.now c.args.f.now c.args.whole c.args.sub c.requires.whole c.requires.sub c.in_err-states.field-0.0 c.in_err-states.ensures.refused in
    let p = err_from_is_err_and c.from_residual.result c.from_residual.ensures.1 in rw (p.1, p.2) told

pub returns-clause-ok : goal.returns-clause-ok
returns-clause-ok c =
    let states : AreStates (InGroup c.args.g.now) (InGroup c.args.f.now) c.in_ok-states.states.reps =
    states_same (In c.args.whole) (InGroup c.args.g.now) (In c.args.sub) (InGroup c.args.f.now) c.requires.whole.members c.requires.sub.members c.in_ok-states.states.reps c.in_ok-states.ensures.states in
    on_ok_weaker c.write_states.result (λ written. (c.in_ok-states.states.reps, states, written)) c.write_states.ensures.ok

pub returns-clause-within : goal.returns-clause-within
returns-clause-within c =
    on_ok_weaker c.write_states.result (λ _. none_outside c.args.g.now c.args.f.now c.args.whole c.args.sub c.requires.whole c.requires.sub c.in_ok-states.ensures.within) c.write_states.ensures.ok
