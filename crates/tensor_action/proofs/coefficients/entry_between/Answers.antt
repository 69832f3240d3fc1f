use Rattle.tensor_defs.specs.Tensor.{index_of}
use Rattle.tensor_rank.specs.IndexLaws.{nth}
use Rattle.tensor_action.proofs.Between.{entry_is}
use Rattle.tensor_action.proofs.coefficients.entry_between.Goals as goal

pub returns : goal.returns
returns g c =
    let r = g.R.Rank.R in
    entry_is c.args.op.now c.entry.result c.digit.result c.digit-2.result (nth (index_of r c.args.to) c.args.place)
    (nth (index_of r c.args.from) c.args.place) c.entry.ensures c.digit.ensures.value c.digit-2.ensures.value
