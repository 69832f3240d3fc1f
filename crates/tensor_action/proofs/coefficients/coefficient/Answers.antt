use Rattle.std.proofs.Common.{◌∙◌}
use Rattle.tensor_defs.specs.Tensor.{coefficient, index_of, sign}
use Rattle.tensor_rank.specs.Flags.{marks_of}
use Rattle.tensor_action.specs.Factors.{product_number}
use Rattle.tensor_action.proofs.FactorLaws.{signed_factor}
use Rattle.tensor_action.proofs.coefficients.coefficient.Goals as goal

pub returns : goal.returns
returns g c =
    let r = g.R.Rank.R in
    c.number_of.ensures
    ∙ signed_factor c.sign_of.result (coefficient c.args.op.now (index_of r c.args.to) (index_of r c.args.from))
    (product_number c.product_between.result) (sign (marks_of c.args.flags) c.args.op.now) c.sign_of.ensures c.product_between.ensures.value
