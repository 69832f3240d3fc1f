use Rattle.std.proofs.Common.{◌≡◌, ◌∙◌, ◌+◌, ◌++◌, ◌∷◌, ap, sym, take, inr}
use Rattle.number_words.specs.NumberWords.{root_word}
use Rattle.number_words.specs.Runs.{IsFactorText}
use Rattle.number_words.proofs.Languages.{FactorRest, behind_factor, ended, factor_from, factor_star, factor_to, front_spelled, no_magnitude, no_star, rest_is, root_faulty, split_at, star_factor, step_faulty}
use Rattle.number_words.proofs.numbers.read_factor.Goals as goal

pub returns-in-Err-clause-tells : goal.returns-in-Err-clause-tells
returns-in-Err-clause-tells c =
    root_faulty FactorRest IsFactorText factor_to factor_from c.args.text.now (rw c.if-has_at.true at c.has_at.ensures) c.in-Err.fault.place c.in-Err.ensures

pub returns-in-Err-read_magnitude-clause-tells : goal.returns-in-Err-read_magnitude-clause-tells
returns-in-Err-read_magnitude-clause-tells c =
    no_magnitude FactorRest IsFactorText factor_to factor_from c.args.text.now behind_factor (rw c.if-has_at.false at c.has_at.ensures) c.in-Err-read_magnitude.fault
    c.in-Err-read_magnitude.ensures.tells

pub returns-then-not-has_at-clause-tells : goal.returns-then-not-has_at-clause-tells
returns-then-not-has_at-clause-tells c =
    no_star IsFactorText c.args.text.now c.in-Ok-read_magnitude.m.end
    (ended FactorRest IsFactorText factor_to factor_from c.args.text.now behind_factor (rw c.if-has_at.false at c.has_at.ensures) c.in-Ok-read_magnitude.m c.in-Ok-read_magnitude.ensures.tells)
    (rw c.if-not-has_at.true at c.has_at-2.ensures)

pub returns-in-Ok-read_root-clause-tells : goal.returns-in-Ok-read_root-clause-tells
returns-in-Ok-read_root-clause-tells c =
    let m = c.in-Ok-read_magnitude.m in
    inr (
      take m.end c.args.text.now,
      front_spelled c.args.text.now m c.in-Ok-read_magnitude.ensures.tells,
      split_at c.args.text.now m.end 42 (rw c.if-not-has_at.false at c.has_at-2.ensures)
          ∙ ap (λ t. take m.end c.args.text.now ++ 42 ∷ t) (sym (rest_is c.args.text.now (m.end + 1)) ∙ c.in-Ok-read_root.ensures),
    )

pub returns-in-Err-read_root-clause-tells : goal.returns-in-Err-read_root-clause-tells
returns-in-Err-read_root-clause-tells c =
    let m = c.in-Ok-read_magnitude.m in
    step_faulty IsFactorText FactorRest (λ z. z ≡ root_word) c.args.text.now m.end 42 c.in-Err-read_root.fault.place c.behind.result.place
    (ended FactorRest IsFactorText factor_to factor_from c.args.text.now behind_factor (rw c.if-has_at.false at c.has_at.ensures) m c.in-Ok-read_magnitude.ensures.tells)
    (rw c.if-not-has_at.false at c.has_at-2.ensures) factor_star star_factor c.in-Err-read_root.ensures c.behind.ensures
