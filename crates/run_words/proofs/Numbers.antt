-- Texts of digits, and what the options of a command are given.
use Rattle.std.proofs.Common.{◌≡◌, ℕ, ◌+◌, ◌-◌, ◌*◌, ◌<◌, ◌≤◌, ◌^◌, zero, suc, List, [], ◌∷◌, length, get_or, take, length-take}
use Rattle.std.proofs.Common.{arith, sym, ◌∙◌, ap, subst}
use Rattle.std.proofs.Math.Nat.{pow-le-pow_right}
use Rattle.std.proofs.lemmas.Bool.Decides.{nat_tests}
use Rattle.std.proofs.lemmas.Int.Digits.{digits_more, digits_value_more, digits_value-lt}
use Rattle.std.specs.Char.{digit_value}
use Rattle.std.specs.Str.Parse.{AllDigits, digits_value}
use Rattle.std.specs.Prelude.{Some, None, codes}
use Rattle.clap.specs.Words.{Row, Text, first_of}
use Rattle.run_words.specs.Words.{IsNumber, NumberAt, IsRun, IsInRange, AsksRows, Asks, HasNoFault, rows_given}
use Rattle.std.specs.declared.option.Option.{Option}
use Rattle.run_words.specs.declared.Generate.{Generate}

-- each byte of a text of digits is one
pub digit_at : (text : List ℕ) (i : ℕ) → i < length text → AllDigits 10 text → digit_value (get_or text i 0) < 10
digit_at [] i within all = absurd (omega arith)
digit_at (b ∷ text) zero within all = all.0
digit_at (b ∷ text) (suc i) within all = digit_at text i (omega arith) all.1

pub digit_low : (b : ℕ) → digit_value b < 10 → 48 ≤ b
digit_low b is = grind (arith, nat_tests)

pub digit_high : (b : ℕ) → digit_value b < 10 → b ≤ 57
digit_high b is = grind (arith, nat_tests)

pub digit_is : (b : ℕ) → 48 ≤ b → b ≤ 57 → digit_value b ≡ b - 48
digit_is b low high = grind (arith, nat_tests)

-- the digits so far, and their value
pub record ReadSoFar (text : List ℕ) (i value : ℕ) : Type 0 where
  pub digits : AllDigits 10 (take i text)
  pub is : value ≡ digits_value 10 (take i text)

pub read_more : (text : List ℕ) (i value : ℕ) → i < length text → 48 ≤ get_or text i 0 → get_or text i 0 ≤ 57 →
    ReadSoFar text i value → ReadSoFar text (i + 1) (value * 10 + (get_or text i 0 - 48))
read_more text i value within low high s =
    let b = get_or text i 0 in
    let digit : digit_value b ≡ b - 48 = digit_is b low high in
    record {
      digits = digits_more 10 text i within s.digits (omega (arith, digit));
      is = omega (arith, digits_value_more 10 text i within, s.is, digit);
    }

pub small_power : (i : ℕ) → i ≤ 9 → 10 ^ i ≤ 1000000000
small_power i is = pow-le-pow_right {n = 10} (omega arith) {i = i} {j = 9} is

pub value_small : (text : List ℕ) (i value : ℕ) → i ≤ 9 → ReadSoFar text i value → value < 1000000000
value_small text i value few s =
    let front = take i text in
    let low : length front ≤ i = omega (arith, length-take i text) in
    omega (arith, s.is, digits_value-lt 10 front s.digits, small_power (length front) (omega (arith, low)))

-- an option has one number at most
pub number_unique : (rows : List Row) (id : Text) (m n : ℕ) → NumberAt rows id m → NumberAt rows id n → m ≡ n
number_unique rows id m n first second =
    let same : first.text ≡ second.text = cc (first.given, second.given) in
    sym first.is.value ∙ ap (λ (t : Text). digits_value 10 t) same ∙ second.is.value

pub none_at : (rows : List Row) (id : Text) → first_of id rows ≡ None → (n : ℕ) → NumberAt rows id n → ⊥
none_at rows id none n at = cc (none, at.given)

pub no_number_at : (rows : List Row) (id text : Text) → first_of id rows ≡ Some text →
    ((n : ℕ) → IsNumber text n → ⊥) → (n : ℕ) → NumberAt rows id n → ⊥
no_number_at rows id text is not_one n at =
    let same : at.text ≡ text = cc (is, at.given) in
    not_one n (subst (λ (t : Text). IsNumber t n) same at.is)

pub asks_rows : (rows : List Row) (count seed : ℕ) (asked : Option Generate) → NumberAt rows (codes "generate") count →
    NumberAt rows (codes "seed") seed → IsInRange count seed asked → AsksRows rows asked
asks_rows rows count seed (Some run) count_at seed_at is = record {
  count_is = subst (λ (n : ℕ). NumberAt rows (codes "generate") n) (sym is.0) count_at;
  seed_is = subst (λ (n : ℕ). NumberAt rows (codes "seed") n) (sym is.1) seed_at;
  in_range = record {
    count_most = omega (arith, is.0, is.2.count_most);
    seed_least = omega (arith, is.1, is.2.seed_least);
    seed_most = omega (arith, is.1, is.2.seed_most);
  };
}
asks_rows rows count seed None count_at seed_at is = λ run at.
    let same_count = number_unique rows (codes "generate") run.count count at.count_is count_at in
    let same_seed = number_unique rows (codes "seed") run.seed seed at.seed_is seed_at in
    is (record {
      count_most = omega (arith, same_count, at.in_range.count_most);
      seed_least = omega (arith, same_seed, at.in_range.seed_least);
      seed_most = omega (arith, same_seed, at.in_range.seed_most);
    })

pub asks_words : (words : List Text) (rows : List Row) (asked : Option Generate) → HasNoFault words →
    rows ≡ rows_given words → AsksRows rows asked → Asks words asked
asks_words words rows (Some run) faultless is asks =
    record { faultless = faultless; is_run = subst (λ (r : List Row). IsRun r run) is asks }
asks_words words rows None faultless is asks =
    λ run accepted. asks run (subst (λ (r : List Row). IsRun r run) (sym is) accepted.is_run)
