use Rattle.std.proofs.Common.{◌∙◌, ap, sym}
use Rattle.tensor_defs.specs.Number.{add, mul, root_3, value_of}
use Rattle.number_laws.proofs.NumberLaws.{num_add-zero, num_zero-mul}
use Rattle.root3_num.specs.Roots.{value_of_root}
use Rattle.number_words.proofs.numbers.rational.Goals as goal

pub returns : goal.returns
returns c =
    ap value_of_root c.of.ensures.parts
    ∙ ap (λ x. add (value_of c.args.a) (mul x root_3)) (sym c.zero.ensures.value.same)
    ∙ ap (add (value_of c.args.a)) (num_zero-mul root_3) ∙ num_add-zero (value_of c.args.a)
