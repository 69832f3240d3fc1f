use Rattle.list_laws.proofs.Kit.{ℕ, List, subst, sym, IfOk-weaker}
use Rattle.sign_moves.specs.declared.classes.Entry.{Entry}
use Rattle.sign_moves.specs.Prelude.{IsClassTable, IsFirstTable, Moves, IsReversible}
use Rattle.sign_moves.proofs.firsts.first_table.Goals as goal

pub returns : goal.returns
returns g c =
    let m : Moves = g.M.Moves.moves c.args.moves.now in
    let order = g.P.Precedence.order c.args.order.now in
    IfOk-weaker c.firsts_of_classes.result _ _ (λ table h.
    let Q : ℕ → Type 0 = λ (k : ℕ). IsReversible k m → IsClassTable k m c.deref.result.now → IsFirstTable k m order table.items in
    subst Q c.requires.same_size (h m) c.requires.reversible
    (subst (λ (xs : List Entry). IsClassTable (g.M.Moves.size c.args.moves.now) m xs) (sym c.deref.ensures.value) c.in_ok-classes.ensures))
    c.firsts_of_classes.ensures
