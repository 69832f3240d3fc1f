-- The digits at the front of a text.
--   IsFront         the first bytes are digits, and their value
--   front_none, front_more, front_below, front_room, front_run    the digits read so far, and all
use Rattle.list_laws.proofs.Kit.{◌≡◌, ℕ, ◌+◌, ◌*◌, ◌<◌, ◌≤◌, ◌^◌, List, length, get_or, take, refl, sym, ap, subst, ◌∙◌, arith, pow-le-pow_right, digits_more}
use Rattle.list_laws.proofs.Kit.{digits_value-lt, digits_value_more, digit_value, AllDigits, digits_value}
use Rattle.std.proofs.lemmas.List.{length-take}
use Rattle.number_words.specs.Runs.{IsRun}

pub record IsFront (text : List ℕ) (value count : ℕ) : Type 0 where
  pub within : count ≤ length text
  pub few : count ≤ 18
  pub digits : AllDigits 10 (take count text)
  pub value_is : digits_value 10 (take count text) ≡ value

pub front_none : (text : List ℕ) → IsFront text 0 0
front_none text = record { within = omega arith; few = omega arith; digits = tt; value_is = refl }

module _ (text : List ℕ) (value count : ℕ) (f : IsFront text value count) where
  pub front_more : (d : ℕ) → count < length text → count < 18 → d ≡ digit_value (get_or text count 0) → d < 10 →
      IsFront text (value * 10 + d) (count + 1)
  front_more d l few is small = record {
    within = omega arith;
    few = omega arith;
    digits = digits_more 10 text count l f.digits (subst (λ x. x < 10) is small);
    value_is = digits_value_more 10 text count l ∙ ap (λ x. x * 10 + digit_value (get_or text count 0)) f.value_is ∙ ap (λ x. value * 10 + x) (sym is);
  }

  pub front_small : value < 10 ^ count
  front_small =
      let l : length (take count text) ≡ count = let a = f.within in omega (arith, length-take count text) in
      let h : digits_value 10 (take count text) < 10 ^ length (take count text) = digits_value-lt 10 (take count text) f.digits in
      subst (λ x. x < 10 ^ count) f.value_is (subst (λ n. digits_value 10 (take count text) < 10 ^ n) l h)

  pub front_below : value < 10 ^ 18
  front_below = weaker count f.few front_small
    where
      weaker : (n : ℕ) → n ≤ 18 → value < 10 ^ n → value < 10 ^ 18
      weaker n h l = let m : 10 ^ n ≤ 10 ^ 18 = pow-le-pow_right (omega arith) h in omega arith

  pub front_run : (count < length text → count < 18 → digit_value (get_or text count 0) < 10 → ⊥) → IsRun text value count
  front_run stops = record { within = f.within; few = f.few; digits = f.digits; value_is = f.value_is; stops = stops }

  pub front_room : count < 18 → value < 10 ^ 17
  front_room h = weaker count (omega arith) front_small
    where
      weaker : (n : ℕ) → n ≤ 17 → value < 10 ^ n → value < 10 ^ 17
      weaker n h l = let m : 10 ^ n ≤ 10 ^ 17 = pow-le-pow_right (omega arith) h in omega arith
