use Rattle.std.proofs.Common.{◌∙◌, ap, sym}
use Rattle.tensor_defs.specs.Number.{add, mul, root_3, value_of}
use Rattle.number_laws.proofs.NumberLaws.{num_zero-add}
use Rattle.root3_num.specs.Roots.{value_of_root}
use Rattle.number_words.proofs.numbers.times_root.Goals as goal

pub returns : goal.returns
returns c =
    ap value_of_root c.of.ensures.parts
    ∙ ap (λ x. add x (mul (value_of c.args.a) root_3)) (sym c.zero.ensures.value.same) ∙ num_zero-add (mul (value_of c.args.a) root_3)
