use Rattle.list_laws.proofs.Kit.{◌≡◌, ◌∙◌, length, sym, arith, eqb-true}
use Rattle.sign_moves.specs.Signs.{signed}
use Rattle.tensor_action.specs.Factors.{product_number}
use Rattle.state_marks.proofs.Parts.{adding-end, adding-start}
use Rattle.state_marks.proofs.adding.add_part.Goals as goal

pub returns-then-is_empty-clause-ok : goal.returns-then-is_empty-clause-ok
returns-then-is_empty-clause-ok c =
    let x = signed c.args.sign (product_number c.args.part.now.product) in
    let none : length c.args.row.now ≡ 0 = eqb-true (length c.args.row.now) 0 (sym c.is_empty.ensures ∙ c.if-is_empty.true) in
    adding-end c.args.sums.now x c.args.row.now 0 c.args.sums.now (omega (arith, none)) (adding-start c.args.sums.now x c.args.row.now)
