use Rattle.std.proofs.Common.{◌*◌, ◌∙◌, ap, sym}
use lib.IntN.{pos}
use Rattle.tensor_defs.specs.Number.{mul, num_one, half_of}
use Rattle.number_laws.proofs.NumberLaws.{num_mul-one, num_mul-zero}
use Rattle.tensor_action.specs.Factors.{entry_number, product_number}
use Rattle.tensor_action.proofs.FactorLaws.{one_number, zero_number, minus_one_number, minus_half_number, minus_root_number, with_minus}
use Rattle.tensor_action.proofs.products.with_entry.Goals as goal

pub returns-in-One-clause-value : goal.returns-in-One-clause-value
returns-in-One-clause-value c =
    let x = product_number c.args.product in
    sym (ap (mul x) (ap entry_number c.in-One.is ∙ one_number) ∙ num_mul-one x)

pub returns-in-Zero-clause-value : goal.returns-in-Zero-clause-value
returns-in-Zero-clause-value c =
    let x = product_number c.args.product in
    c.nothing.ensures.value ∙ sym (ap (mul x) (ap entry_number c.in-Zero.is ∙ zero_number) ∙ num_mul-zero x)

pub returns-in-MinusHalf-clause-value : goal.returns-in-MinusHalf-clause-value
returns-in-MinusHalf-clause-value c =
    with_minus (product_number c.args.product) (product_number c.halved-in-MinusHalf.result) _ (half_of (pos 1) (pos 0))
    (entry_number c.args.entry) c.negated.ensures.value c.halved-in-MinusHalf.ensures.value
    (ap entry_number c.in-MinusHalf.is ∙ minus_half_number)

pub returns-in-MinusHalf-clause-within : goal.returns-in-MinusHalf-clause-within
returns-in-MinusHalf-clause-within c = λ b w. c.negated.ensures.within (3 * b) (c.halved-in-MinusHalf.ensures.within b w)

pub returns-in-MinusHalfRoot3-clause-value : goal.returns-in-MinusHalfRoot3-clause-value
returns-in-MinusHalfRoot3-clause-value c =
    with_minus (product_number c.args.product) (product_number c.turned-in-MinusHalfRoot3.result) _ (half_of (pos 0) (pos 1))
    (entry_number c.args.entry) c.negated-in-MinusHalfRoot3.ensures.value c.turned-in-MinusHalfRoot3.ensures.value
    (ap entry_number c.in-MinusHalfRoot3.is ∙ minus_root_number)

pub returns-in-MinusHalfRoot3-clause-within : goal.returns-in-MinusHalfRoot3-clause-within
returns-in-MinusHalfRoot3-clause-within c =
    λ b w. c.negated-in-MinusHalfRoot3.ensures.within (3 * b) (c.turned-in-MinusHalfRoot3.ensures.within b w)

pub returns-in-MinusOne-clause-value : goal.returns-in-MinusOne-clause-value
returns-in-MinusOne-clause-value c =
    let x = product_number c.args.product in
    with_minus x x _ num_one (entry_number c.args.entry) c.negated-in-MinusOne.ensures.value (sym (num_mul-one x))
    (ap entry_number c.in-MinusOne.is ∙ minus_one_number)
