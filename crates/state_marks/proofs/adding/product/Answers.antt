use Rattle.std.proofs.Common.{ap, sym, ◌∙◌, subst, Ok}
use Rattle.tensor_defs.specs.Number.{Fraction, Root3, neg, value_of}
use Rattle.exact_frac.specs.Held.{IsHeldAs}
use Rattle.root3_num.specs.Answers.{IsExactProduct}
use Rattle.root3_num.specs.Roots.{value_of_root}
use Rattle.state_marks.proofs.Parts.{one_told, times-fraction, times-minus_one, times-one}
use Rattle.state_marks.proofs.adding.product.Goals as goal

pub returns-then-is_one_part : goal.returns-then-is_one_part
returns-then-is_one_part c =
    let x = value_of_root c.args.factor.now in
    subst (λ (v : Root3). IsExactProduct x (value_of c.args.number.now) (Ok v)) (sym c.factor.view_is)
    (times-one c.args.factor.now c.in_lowest_terms.ensures.held c.args.number.now c.in_lowest_terms-2.ensures.held
    (one_told c.args.number.now (sym c.is_one_part.ensures ∙ c.if-is_one_part.true)))

pub returns-then-is_minus_one : goal.returns-then-is_minus_one
returns-then-is_minus_one c =
    let is = c.factor.view_is in
    times-minus_one c.args.factor.now c.in_lowest_terms.ensures.held c.args.number.now c.in_lowest_terms-2.ensures.held
    c.neg.result c.neg-then-is_minus_one.result c.of.result (c.is_minus_one.ensures c.if-is_minus_one.true)
    (subst (λ (f : Fraction). IsHeldAs (neg (value_of f)) c.neg.result) (ap (λ (r : Root3). r.a) is) c.neg.ensures.value)
    (subst (λ (f : Fraction). IsHeldAs (neg (value_of f)) c.neg-then-is_minus_one.result) (ap (λ (r : Root3). r.b) is)
    c.neg-then-is_minus_one.ensures.value) c.of.ensures.parts

pub returns : goal.returns
returns c =
    let whole : Fraction → Root3 = λ z. record { a = c.args.number.now; b = z } in
    times-fraction (value_of_root c.args.factor.now) c.args.number.now c.of-2.result c.mul.result
    (c.of-2.ensures.parts ∙ ap whole c.zero.ensures.parts) c.mul.ensures
