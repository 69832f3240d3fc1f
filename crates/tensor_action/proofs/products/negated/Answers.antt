use Rattle.std.proofs.Common.{◌∙◌, ap, sym}
use Rattle.tensor_defs.specs.declared.Sign.TheVariants.{Minus}
use Rattle.sign_moves.specs.Signs.{signed}
use Rattle.sign_moves.proofs.SignLaws.{signed-signed}
use Rattle.tensor_action.specs.Factors.{size_of}
use Rattle.tensor_action.proofs.products.negated.Goals as goal

pub returns-clause-value : goal.returns-clause-value
returns-clause-value c =
    let p = c.args.product in
    let x = size_of p.rational p.root p.below in
    ap (λ s. signed s x) c.times.ensures ∙ sym (signed-signed Minus p.sign x)
