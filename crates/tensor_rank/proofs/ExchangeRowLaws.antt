-- The digits of a component make up where an exchange carries it.
--   digit_front, digit_last    the digits of a component with one more
--   exchange_row    the row of an exchange from those of its places
--   front_small_parts, front_row    the same at the first places
use Rattle.list_laws.proofs.Kit.{◌≡◌, ◌≢◌, ℕ, ◌+◌, ◌-◌, ◌*◌, ◌/◌, ◌%◌, ◌^◌, ◌<◌, ◌≤◌, cond, List, [], ◌∷◌, zero, suc, length, get_or, arith, ap, sym, ◌∙◌}
use Rattle.list_laws.proofs.Kit.{refl, subst, inl, inr, cases_lt, lt-ltb, le-ltb, eqb_tells, div-div-eq-div-mul, div-one, pow-succ', take, get_or-take}
use Rattle.list_laws.proofs.Kit.{length-take-le}
use Rattle.std.specs.Prelude.{nat_lt}
use Rattle.tensor_defs.specs.declared.Sign.{Sign}
use Rattle.tensor_defs.specs.declared.Sign.TheVariants.{Plus}
use Rattle.sign_moves.specs.declared.tabled.Step.{Step}
use Rattle.sign_moves.specs.Prelude.{times, times_plus, step_at, part_at, AreParts, digit_step, IsDigitRow}
use Rattle.tensor_rank.specs.declared.exchanges.Exchange.{Exchange}
use Rattle.tensor_rank.specs.Prelude.{digit_of, number_of, number_of-same, IsWithin, partner, exchanged, sign_of_exchange, exchange_part, IsExchangeRow}
use Rattle.tensor_rank.proofs.ExchangeLaws.{partner_below, partner-partner, power_small}

-- one digit that is greater makes a number that is greater by it
number_of-more : (r p d : ℕ) (f g : ℕ → ℕ) → p < r → ((q : ℕ) → q < r → q ≢ p → g q ≡ f q) → g p ≡ f p + d → number_of r g ≡ number_of r f + d * 3 ^ (r - 1 - p)
unfolding number_of
number_of-more zero p d f g below same more = absurd (omega arith)
number_of-more (suc k) p d f g below same more = elim (eqb_tells p k) as (λ _. number_of (suc k) g ≡ number_of (suc k) f + d * 3 ^ (suc k - 1 - p)) [
  | inl e ↦
      let is : p ≡ k = e.1 in
      let front : number_of k g ≡ number_of k f = number_of-same k g f (λ q h. same q (omega arith) (λ w. absurd (omega arith))) in
      let last : g k ≡ f k + d = subst (λ (x : ℕ). g x ≡ f x + d) is more in
      let place : suc k - 1 - p ≡ 0 = omega arith in
      rw place (omega arith)
  | inr e ↦
      let differs : p ≢ k = e.1 in
      let earlier : p < k = omega arith in
      let front : number_of k g ≡ number_of k f + d * 3 ^ (k - 1 - p) = number_of-more k p d f g earlier (λ q h. same q (omega arith)) more in
      let last : g k ≡ f k = same k (omega arith) (λ w. differs (sym w)) in
      let place : suc k - 1 - p ≡ suc (k - 1 - p) = omega arith in
      rw (place, pow-succ' 3 (k - 1 - p)) (more_power (number_of k g) (number_of k f) (g k) (f k) d (3 ^ (k - 1 - p)) front last)
]
  where
    more_power : (a b x y d w : ℕ) → a ≡ b + d * w → x ≡ y → 3 * a + x ≡ 3 * b + y + d * (3 * w)
    more_power a b x y d w e h = grind arith

zero_digits : (r : ℕ) (f : ℕ → ℕ) → ((p : ℕ) → p < r → f p ≡ 0) → number_of r f ≡ 0
unfolding number_of
zero_digits zero f h = refl
zero_digits (suc k) f h =
    let front : number_of k f ≡ 0 = zero_digits k f (λ p l. h p (omega arith)) in
    let last : f k ≡ 0 = h k (omega arith) in
    omega arith

-- the digits at the first k places, of a component of rank k, and zeros
front_digit : ℕ → ℕ → ℕ → ℕ
front_digit k c q = cond (nat_lt q k) (digit_of k c q) 0

front_at : (k c q : ℕ) → q < k → front_digit k c q ≡ digit_of k c q
unfolding front_digit
front_at k c q h = ap (λ t. cond t (digit_of k c q) 0) (lt-ltb q k h)

front_past : (k c q : ℕ) → k ≤ q → front_digit k c q ≡ 0
unfolding front_digit
front_past k c q h = ap (λ t. cond t (digit_of k c q) 0) (le-ltb q k h)

pub digit_front : (k c q : ℕ) → q < k → digit_of (suc k) c q ≡ digit_of k (c / 3) q
digit_front k c q h =
    let place : suc k - 1 - q ≡ suc (k - 1 - q) = omega arith in
    ap (λ j. c / 3 ^ j % 3) place
    ∙ ap (λ w. c / w % 3) (pow-succ' 3 (k - 1 - q))
    ∙ ap (λ x. x % 3) (sym (div-div-eq-div-mul c 3 (3 ^ (k - 1 - q))))

pub digit_last : (k c : ℕ) → digit_of (suc k) c k ≡ c % 3
digit_last k c =
    let place : suc k - 1 - k ≡ 0 = omega arith in
    ap (λ j. c / 3 ^ j % 3) place ∙ ap (λ x. x % 3) (div-one c)

part_to : (w d : ℕ) → d < 3 → (step_at (record { to = 0; sign = Plus } ∷ record { to = w; sign = Plus } ∷ record { to = 2 * w; sign = Plus } ∷ []) d).to ≡ d * w
part_to w zero h = omega arith
part_to w (suc zero) h = omega arith
part_to w (suc (suc zero)) h = omega arith
part_to w (suc (suc (suc d))) h = absurd (omega arith)

part_sign : (w d : ℕ) → (step_at (record { to = 0; sign = Plus } ∷ record { to = w; sign = Plus } ∷ record { to = 2 * w; sign = Plus } ∷ []) d).sign ≡ Plus
part_sign w zero = refl
part_sign w (suc zero) = refl
part_sign w (suc (suc zero)) = refl
part_sign w (suc (suc (suc d))) = refl

module _ (r : ℕ) (e : Exchange) (h : IsWithin r e) (parts : List (List Step)) (are : (k : ℕ) → k < r → get_or parts k [] ≡ exchange_part r e k) where
  part_is : (k d : ℕ) → k < r → d < 3 → (part_at parts k d).to ≡ d * 3 ^ (r - 1 - partner e k)
  part_is k d below small = ap (λ xs. (step_at xs d).to) (are k below) ∙ part_to (3 ^ (r - 1 - partner e k)) d small

  front_to : (s : Sign) (k c : ℕ) → k ≤ r → (digit_step parts s k c).to ≡ number_of r (λ p. front_digit k c (partner e p))
  unfolding digit_step
  front_to s zero c l = sym (zero_digits r (λ p. front_digit 0 c (partner e p)) (λ p _. front_past 0 c (partner e p) (omega arith)))
  front_to s (suc k) c l =
      let before : (digit_step parts s k (c / 3)).to ≡ number_of r (λ p. front_digit k (c / 3) (partner e p)) = front_to s k (c / 3) (omega arith) in
      let here : (part_at parts k (c % 3)).to ≡ c % 3 * 3 ^ (r - 1 - partner e k) = part_is k (c % 3) (omega arith) (omega arith) in
      let home : partner e (partner e k) ≡ k = partner-partner r e h k in
      let more : number_of r (λ p. front_digit (suc k) c (partner e p)) ≡ number_of r (λ p. front_digit k (c / 3) (partner e p)) + c % 3 * 3 ^ (r - 1 - partner e k) =
      number_of-more r (partner e k) (c % 3) (λ p. front_digit k (c / 3) (partner e p)) (λ p. front_digit (suc k) c (partner e p)) (partner_below r e h k (omega arith))
      (λ q below differs. elim (cases_lt (partner e q) k) as (λ _. front_digit (suc k) c (partner e q) ≡ front_digit k (c / 3) (partner e q)) [
        | inl p ↦ front_at (suc k) c (partner e q) (omega arith) ∙ digit_front k c (partner e q) p ∙ sym (front_at k (c / 3) (partner e q) p)
        | inr p ↦
            let other : partner e q ≢ k = λ w. differs (sym (partner-partner r e h q) ∙ ap (partner e) w) in
            front_past (suc k) c (partner e q) (omega arith) ∙ sym (front_past k (c / 3) (partner e q) p)
      ])
      (ap (front_digit (suc k) c) home ∙ front_at (suc k) c k (omega arith) ∙ digit_last k c
      ∙ sym (ap (λ x. x + c % 3) (ap (front_digit k (c / 3)) home ∙ front_past k (c / 3) k (omega arith)) ∙ (omega arith))) in
      omega arith

  front_sign : (s : Sign) (k c : ℕ) → k ≤ r → (digit_step parts s k c).sign ≡ s
  unfolding digit_step
  front_sign s zero c l = refl
  front_sign s (suc k) c l =
      let here : (part_at parts k (c % 3)).sign ≡ Plus = ap (λ xs. (step_at xs (c % 3)).sign) (are k (omega arith)) ∙ part_sign (3 ^ (r - 1 - partner e k)) (c % 3) in
      (λ i. times (front_sign s k (c / 3) (omega arith) i) (here i)) ∙ times_plus s

  pub exchange_row : (row : List Step) → IsDigitRow parts (sign_of_exchange e) r row → IsExchangeRow r e row
  unfolding exchanged
  exchange_row row d = record {
    len = d.len;
    to = λ c below.
        ap (λ x. x.to) (d.each c below) ∙ front_to (sign_of_exchange e) r c (omega arith)
        ∙ number_of-same r (λ p. front_digit r c (partner e p)) (λ p. digit_of r c (partner e p)) (λ p l. front_at r c (partner e p) (partner_below r e h p l));
    sign = λ c below. ap (λ x. x.sign) (d.each c below) ∙ front_sign (sign_of_exchange e) r c (omega arith);
  }

-- the parts that are handed on
module _ (r n : ℕ) (e : Exchange) (h : IsWithin r e) (parts : List (List Step)) (few : r ≤ 6) (size : n ≡ r) (len : length parts ≡ 6) (are : (k : ℕ) → k < r → get_or parts k [] ≡ exchange_part r e k) where
  front_length : length (take n parts) ≡ r
  front_length = length-take-le n parts (omega arith) ∙ size

  front_is : (k : ℕ) → k < r → get_or (take n parts) k [] ≡ exchange_part r e k
  front_is k l = get_or-take n parts k [] (omega arith) ∙ are k l

  weight_small : (k : ℕ) → k < r → 3 ^ (r - 1 - partner e k) ≤ 243
  weight_small k l =
      let power : 3 ^ suc (r - 1 - partner e k) ≤ 729 = power_small (suc (r - 1 - partner e k)) (omega arith) in
      let more : 3 ^ suc (r - 1 - partner e k) ≡ 3 * 3 ^ (r - 1 - partner e k) = pow-succ' 3 (r - 1 - partner e k) in
      omega arith

  pub front_small_parts : AreParts (take n parts)
  front_small_parts = record {
    small = λ k d l small.
        let below : k < r = omega (arith, front_length) in
        let w : ℕ = 3 ^ (r - 1 - partner e k) in
        let light : w ≤ 243 = weight_small k below in
        let is : (part_at (take n parts) k d).to ≡ d * w = part_is r e h (take n parts) front_is k d below small in
        let heavy : d * w ≤ 2 * w = twice d w small in
        omega arith;
  }
    where
      twice : (d w : ℕ) → d < 3 → d * w ≤ 2 * w
      twice zero w l = omega arith
      twice (suc zero) w l = omega arith
      twice (suc (suc zero)) w l = omega arith
      twice (suc (suc (suc d))) w l = absurd (omega arith)

  pub front_row : (row : List Step) → IsDigitRow (take n parts) (sign_of_exchange e) (length (take n parts)) row → IsExchangeRow r e row
  front_row row d = exchange_row r e h (take n parts) front_is row (let P : ℕ → Type 0 = λ x. IsDigitRow (take n parts) (sign_of_exchange e) x row in subst P front_length d)
