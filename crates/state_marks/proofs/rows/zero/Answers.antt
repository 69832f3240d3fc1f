use Rattle.std.proofs.Common.{◌∙◌, ap, sym}
use Rattle.tensor_defs.specs.Number.{add, mul, root_3}
use Rattle.root3_num.specs.Roots.{value_of_root}
use Rattle.root3_num.proofs.RootParts.{zero-parts}
use Rattle.state_marks.proofs.rows.zero.Goals as goal

pub returns : goal.returns
returns c =
    ap value_of_root c.of.ensures.parts
    ∙ (λ n. add (sym c.zero.ensures.value.same n) (mul (sym c.zero-2.ensures.value.same n) root_3)) ∙ zero-parts
