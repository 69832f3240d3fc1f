use Rattle.std.proofs.Common.{◌∙◌, ap, sym}
use Rattle.tensor_defs.specs.Number.{Fraction, Root3}
use Rattle.root3_num.specs.Roots.{value_of_root}
use Rattle.state_marks.proofs.Parts.{rational-root}
use Rattle.state_marks.proofs.rows.is_fraction.Goals as goal

pub returns : goal.returns
returns c =
    let whole : Fraction → Root3 = λ z. record { a = c.args.fraction.now; b = z } in
    let e = ap value_of_root (c.of.ensures.parts ∙ ap whole c.zero.ensures.parts) ∙ rational-root c.args.fraction.now in
    ((λ t. c.same.ensures.0 t ∙ e), (λ s. c.same.ensures.1 (s ∙ sym e)))
