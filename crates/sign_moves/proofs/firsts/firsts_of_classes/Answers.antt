use Rattle.std.proofs.lemmas.Result.{IfOk-weaker}
use Rattle.sign_moves.proofs.BestLaws.{first_table}
use Rattle.sign_moves.proofs.firsts.firsts_of_classes.Goals as goal

pub returns : goal.returns
returns g c =
    IfOk-weaker c.links.result _ _ (λ links h m back table.
    first_table (g.P.Precedence.size c.args.order.now) m (g.P.Precedence.order c.args.order.now) c.args.classes.now links.items back table h)
    c.links.ensures
