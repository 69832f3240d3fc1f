use Rattle.std.proofs.Common.{◌∙◌, ap, sym}
use lib.IntN.{pos}
use Rattle.tensor_defs.specs.Number.{add, mul, over, root_3}
use Rattle.root3_num.specs.Roots.{value_of_root}
use Rattle.sign_moves.specs.Signs.{signed}
use Rattle.sign_moves.proofs.SignLaws.{signed-signed}
use Rattle.tensor_action.specs.Factors.{size_of}
use Rattle.tensor_action.proofs.FactorLaws.{signed-root}
use Rattle.tensor_action.proofs.products.number_of.Goals as goal

pub returns : goal.returns
returns c =
    let p = c.args.product in
    let x = size_of p.rational p.root p.below in
    ap value_of_root c.of.ensures.parts
    ∙ (λ n. add (sym c.signed_fraction-rational.ensures.same n) (mul (sym c.signed_fraction-root.ensures.same n) root_3))
    ∙ signed-root c.times-sign.result (over (pos p.rational) p.below) (over (pos p.root) p.below)
    ∙ ap (λ s. signed s x) c.times-sign.ensures ∙ sym (signed-signed c.args.sign p.sign x)
