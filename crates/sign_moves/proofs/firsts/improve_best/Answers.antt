use Rattle.std.proofs.Common.{refl, sym, ◌∙◌}
use Rattle.sign_moves.proofs.BestLaws.{best_taken}
use Rattle.sign_moves.proofs.firsts.improve_best.Goals as goal

pub returns-then-precedes : goal.returns-then-precedes
returns-then-precedes g c =
    best_taken (g.met.P.Precedence.strict c.args.order.now) c.requires.best c.requires.component (sym c.precedes.ensures ∙ c.if-precedes.true) _ _ refl (c.requires.below c.args.c c.requires.component) refl
