use Rattle.std.proofs.Common.{◌≡◌, ◌∙◌, ◌+◌, ◌++◌, ◌∷◌, ◌<◌, ap, get_or, take, drop, refl, inl, inr, sym, length, arith, subst}
use Rattle.tensor_defs.specs.Number.{add, mul, root_3}
use Rattle.number_words.specs.NumberWords.{SpellsFactor, root_word, sign_byte, size}
use Rattle.number_words.specs.Runs.{IsAt, IsFactorText, IsSignedText}
use Rattle.number_words.proofs.Languages.{SignedRest, behind_signed, ended, front_spelled, no_magnitude, no_sign, rest_is, root_faulty, sign_signed, signed_from, signed_sign, signed_star, signed_to, split_at, star_signed, step_faulty}
use Rattle.number_words.proofs.numbers.read_signed.Goals as goal

pub returns-in-Err : goal.returns-in-Err
returns-in-Err c =
    root_faulty SignedRest (IsSignedText c.args.sign) (signed_to c.args.sign) (signed_from c.args.sign) c.args.text.now (rw c.if-has_at.true at c.has_at.ensures) c.in-Err.fault.place c.in-Err.ensures

pub returns-in-Err-read_magnitude : goal.returns-in-Err-read_magnitude
returns-in-Err-read_magnitude c =
    no_magnitude SignedRest (IsSignedText c.args.sign) (signed_to c.args.sign) (signed_from c.args.sign) c.args.text.now behind_signed (rw c.if-has_at.false at c.has_at.ensures) c.in-Err-read_magnitude.fault
    c.in-Err-read_magnitude.ensures.tells

pub returns-in-Ok-read_root : goal.returns-in-Ok-read_root
returns-in-Ok-read_root c =
    let m = c.in-Ok-read_magnitude.m in
    inr (inl (
      m.num,
      m.den,
      inr (
        take m.end c.args.text.now,
        front_spelled c.args.text.now m c.in-Ok-read_magnitude.ensures.tells,
        split_at c.args.text.now m.end 42 (rw c.if-has_at-2.true at c.has_at-2.ensures)
            ∙ ap (λ t. take m.end c.args.text.now ++ 42 ∷ t) (sym (rest_is c.args.text.now (m.end + 1)) ∙ c.in-Ok-read_root.ensures),
      ),
      c.times_root-in-Ok-read_root.ensures ∙ ap (λ x. mul x root_3) (sym c.fraction-first.ensures.same),
    ))

pub returns-in-Err-read_root : goal.returns-in-Err-read_root
returns-in-Err-read_root c =
    let m = c.in-Ok-read_magnitude.m in
    step_faulty (IsSignedText c.args.sign) SignedRest (λ z. z ≡ root_word) c.args.text.now m.end 42 c.in-Err-read_root.fault.place
    c.behind.result.place (ended SignedRest (IsSignedText c.args.sign) (signed_to c.args.sign) (signed_from c.args.sign) c.args.text.now behind_signed (rw c.if-has_at.false at c.has_at.ensures) c.in-Ok-read_magnitude.m c.in-Ok-read_magnitude.ensures.tells)
    (rw c.if-has_at-2.true at c.has_at-2.ensures) signed_star star_signed c.in-Err-read_root.ensures c.behind.ensures

pub returns-in_default : goal.returns-in_default
returns-in_default c =
    let m = c.in-Ok-read_magnitude.m in
    let within : m.end < length c.args.text.now = omega (arith, c.if-m-text.false, c.in-Ok-read_magnitude.ensures.within) in
    no_sign (IsSignedText c.args.sign) c.args.text.now m.end (get_or c.args.text.now m.end 0) (ended SignedRest (IsSignedText c.args.sign) (signed_to c.args.sign) (signed_from c.args.sign) c.args.text.now behind_signed (rw c.if-has_at.false at c.has_at.ensures) c.in-Ok-read_magnitude.m c.in-Ok-read_magnitude.ensures.tells)
    (within, refl) (rw c.if-has_at-2.false at c.has_at-2.ensures) c.in_default.ensures.0 c.in_default.ensures.1

pub returns-in-Ok-read_sum : goal.returns-in-Ok-read_sum
returns-in-Ok-read_sum c =
    let m = c.in-Ok-read_magnitude.m in
    let sum = c.in-Ok-read_sum.ensures in
    let within : m.end < length c.args.text.now = omega (arith, c.if-m-text.false, c.in-Ok-read_magnitude.ensures.within) in
    let at : IsAt c.args.text.now m.end (sign_byte c.in-Some.second) = (within, c.in-Some.ensures) in
    inr (inr (record {
      magnitude = take m.end c.args.text.now;
      factor = drop (m.end + 1) c.args.text.now;
      sign = c.in-Some.second;
      text_is = split_at c.args.text.now m.end (sign_byte c.in-Some.second) at;
      n = m.num;
      d = m.den;
      rational = front_spelled c.args.text.now m c.in-Ok-read_magnitude.ensures.tells;
      p = sum.p;
      q = sum.q;
      root = subst (λ v. SpellsFactor v sum.p sum.q) (rest_is c.args.text.now (m.end + 1)) sum.root;
      value = sum.value ∙ ap (λ x. add x (mul (size c.in-Some.second sum.p sum.q) root_3)) (sym c.fraction-first.ensures.same);
    }))

pub returns-in-Err-read_sum : goal.returns-in-Err-read_sum
returns-in-Err-read_sum c =
    let m = c.in-Ok-read_magnitude.m in
    let within : m.end < length c.args.text.now = omega (arith, c.if-m-text.false, c.in-Ok-read_magnitude.ensures.within) in
    let at : IsAt c.args.text.now m.end (sign_byte c.in-Some.second) = (within, c.in-Some.ensures) in
    step_faulty (IsSignedText c.args.sign) SignedRest IsFactorText c.args.text.now m.end (sign_byte c.in-Some.second)
    c.in-Err-read_sum.fault.place c.behind-in-Err-read_sum.result.place (ended SignedRest (IsSignedText c.args.sign) (signed_to c.args.sign) (signed_from c.args.sign) c.args.text.now behind_signed (rw c.if-has_at.false at c.has_at.ensures) c.in-Ok-read_magnitude.m c.in-Ok-read_magnitude.ensures.tells) at (signed_sign c.in-Some.second) (sign_signed c.in-Some.second)
    c.in-Err-read_sum.ensures c.behind-in-Err-read_sum.ensures
