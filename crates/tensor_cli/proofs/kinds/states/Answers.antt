use Rattle.std.proofs.Common.{[], refl}
use Rattle.std.proofs.lemmas.Result.{err_from_is_err_and}
use Rattle.text_defs.specs.Requests.Request.{States}
use Rattle.tensor_cli.specs.Kinds.{group_at}
use Rattle.tensor_cli.proofs.Grown.{states_grown}
use Rattle.tensor_cli.proofs.StopLaws.{states_stop}
use Rattle.tensor_cli.proofs.kinds.states.Goals as goal

pub returns-in_err-whole-clause-stop : goal.returns-in_err-whole-clause-stop
returns-in_err-whole-clause-stop c =
    let p = err_from_is_err_and c.from_residual.result c.from_residual.ensures.1 in
    rw (p.1, p.2) (c.in_err-whole.ensures.stop (States (group_at c.args.g.now) (group_at c.args.f.now)) [] refl)

pub returns-in-Ok-clause-ok : goal.returns-in-Ok-clause-ok
returns-in-Ok-clause-ok c =
    states_grown c.args.g.now c.args.f.now c.args.out.now.items c.answer_states.new.out.items c.in_ok-whole.ensures.first.2
    c.in_ok-whole.ensures.second.2 c.in-Ok.ensures.within c.in-Ok.ensures.ok

pub returns-in-Err-clause-stop : goal.returns-in-Err-clause-stop
returns-in-Err-clause-stop c =
    states_stop (States (group_at c.args.g.now) (group_at c.args.f.now)) c.args.f.now c.in-Err.fault c.state_stop.result
    (c.in_ok-whole.ensures.first.2, (c.in_ok-whole.ensures.second.2, tt)) tt tt
    (λ k e. (c.in-Err.ensures.refused k e, refl)) c.state_stop.ensures
