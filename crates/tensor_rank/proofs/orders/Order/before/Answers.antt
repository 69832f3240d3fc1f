use Rattle.std.proofs.Common.{ap, sym, ◌∙◌}
use Rattle.tensor_defs.specs.Tensor.{index_of}
use Rattle.tensor_rank.specs.Prelude.{ordering_of, before_of}
use Rattle.tensor_rank.proofs.orders.Order.before.Goals as goal

pub returns-in-Blocks : goal.returns-in-Blocks
returns-in-Blocks g c =
    let r = g.R.Rank.R in
    c.blocks_precede.ensures
    ∙ ap (λ o. before_of o (index_of r c.args.a) (index_of r c.args.b)) (sym (ap ordering_of c.in-Blocks.is) ∙ c.self.view_is)
