use Rattle.std.proofs.Common.{[], refl}
use Rattle.std.proofs.lemmas.Result.{IfErr-weaker, err_from_is_err_and, on_ok_weaker}
use Rattle.text_defs.specs.Requests.Request.{Differ}
use Rattle.tensor_cli.specs.Kinds.{group_at}
use Rattle.tensor_cli.proofs.Grown.{differ_grown}
use Rattle.tensor_cli.proofs.StopLaws.{large_stop, ranks_stop, states_stop}
use Rattle.tensor_cli.proofs.kinds.differ.Goals as goal

pub returns-in_err-whole-clause-stop : goal.returns-in_err-whole-clause-stop
returns-in_err-whole-clause-stop c =
    let p = err_from_is_err_and c.from_residual.result c.from_residual.ensures.1 in
    rw (p.1, p.2) (λ js told few. c.in_err-whole.ensures.stop (Differ (group_at c.args.g.now) (group_at c.args.f.now) js) [] refl)

pub returns-in_err-list_in_rank-clause-stop : goal.returns-in_err-list_in_rank-clause-stop
returns-in_err-list_in_rank-clause-stop c =
    let p = err_from_is_err_and c.from_residual-in_err-list_in_rank.result c.from_residual-in_err-list_in_rank.ensures.1 in
    rw (p.1, p.2) (λ js told few. ranks_stop (Differ (group_at c.args.g.now) (group_at c.args.f.now) js) c.in_err-list_in_rank.field-0.0
    (c.in_ok-whole.ensures.first.2, (c.in_ok-whole.ensures.second.2, tt)) (c.in_err-list_in_rank.ensures.err js told few))

pub returns-in-Err-clause-stop : goal.returns-in-Err-clause-stop
returns-in-Err-clause-stop c = λ js told few.
    states_stop (Differ (group_at c.args.g.now) (group_at c.args.f.now) js) c.args.f.now c.in-Err.fault c.state_stop.result
    (c.in_ok-whole.ensures.first.2, (c.in_ok-whole.ensures.second.2, tt)) (c.in_ok-list_in_rank.ensures.ok js told few) tt
    (λ k e. (c.in-Err.ensures.refused k e, refl)) c.state_stop.ensures

pub returns-in-Ok-clause-ok : goal.returns-in-Ok-clause-ok
returns-in-Ok-clause-ok c =
    on_ok_weaker c.answer_list.result (λ given js told few. differ_grown c.args.g.now c.args.f.now c.args.out.now.items
    c.answer_list.new.out.items js c.in_ok-whole.ensures.first.2 c.in_ok-whole.ensures.second.2 c.in-Ok.ensures.within
    (c.in_ok-list_in_rank.ensures.ok js told few) (given js told few).0 (given js told few).1) c.answer_list.ensures.ok

pub returns-in-Ok-clause-stop : goal.returns-in-Ok-clause-stop
returns-in-Ok-clause-stop c =
    IfErr-weaker c.answer_list.result _ _ (λ e given js told few. large_stop (Differ (group_at c.args.g.now) (group_at c.args.f.now) js) e
    (c.in_ok-whole.ensures.first.2, (c.in_ok-whole.ensures.second.2, tt)) (c.in_ok-list_in_rank.ensures.ok js told few) tt
    (λ k x n. c.in-Ok.ensures.within k n.0) (given js told few)) c.answer_list.ensures.stop
