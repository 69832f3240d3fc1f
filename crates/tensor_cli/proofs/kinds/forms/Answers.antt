use Rattle.std.proofs.lemmas.Result.{on_ok_weaker}
use Rattle.tensor_cli.proofs.Grown.{forms_grown}
use Rattle.tensor_cli.proofs.kinds.forms.Goals as goal

pub returns-clause-ok : goal.returns-clause-ok
returns-clause-ok c =
    on_ok_weaker c.answer_list.result (λ given js told few. forms_grown c.args.g.now c.args.out.now.items c.answer_list.new.out.items js
    c.in_ok-group.ensures.accepted (c.in_ok-list_in_rank.ensures.ok js told few) (given js told few).0 (given js told few).1)
    c.answer_list.ensures.ok
