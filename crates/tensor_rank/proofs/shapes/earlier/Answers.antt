use Rattle.std.proofs.Common.{ap, sym, ◌∙◌}
use Rattle.sign_moves.specs.Classes.{first_at}
use Rattle.tensor_defs.specs.Tensor.{index_of}
use Rattle.tensor_rank.specs.Prelude.{before_of, orders_strict}
use Rattle.tensor_rank.proofs.FirstLaws.{first_taken}
use Rattle.tensor_rank.proofs.shapes.earlier.Goals as goal

pub returns-then-before : goal.returns-then-before
returns-then-before g c =
    first_taken (orders_strict g.R.Rank.R c.args.order.now) c.requires.first c.requires.number
    (c.if-classes-number.true ∙ ap (first_at c.args.classes.now) c.number.ensures.same)
    (ap (λ d. before_of c.args.order.now (index_of g.R.Rank.R d) (index_of g.R.Rank.R c.args.best)) (sym c.at-d.ensures)
    ∙ sym c.before-then-classes-number.ensures ∙ c.if-before.true)
    c.at-d.result c.at-d.ensures
