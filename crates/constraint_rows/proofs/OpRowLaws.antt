-- The digits of a component make up where a signed permutation matrix carries it, and with which sign.
--   small_parts, op_row    the parts of the digits, and their row
use Rattle.list_laws.proofs.Kit.{◌≡◌, ℕ, ◌+◌, ◌-◌, ◌*◌, ◌/◌, ◌%◌, ◌^◌, ◌<◌, ◌≤◌, List, [], take, zero, suc, length, get_or, arith, ap, sym, ◌∙◌, refl, subst}
use Rattle.list_laws.proofs.Kit.{pow-succ', mul-one, get_or-take, length-take-le}
use Rattle.tensor_defs.specs.declared.Sign.{Sign}
use Rattle.sign_moves.specs.declared.tabled.Step.{Step}
use Rattle.sign_moves.specs.Prelude.{times, times_plus, times-times, step_at, part_at, AreParts, digit_step, IsDigitRow}
use Rattle.tensor_rank.specs.Prelude.{digit_of, number_of, number_of-same}
use Rattle.tensor_rank.proofs.ExchangeLaws.{power_small}
use Rattle.tensor_rank.proofs.ExchangeRowLaws.{digit_front, digit_last}
use Rattle.constraint_rows.specs.declared.ops.PlainOp.{PlainOp}
use Rattle.constraint_rows.specs.Prelude.{image, entry_sign, signs_of, op_carried, HasColumns, op_step, op_part, IsOpRow}
use Rattle.constraint_rows.proofs.OpLaws.{signs_of-same}

step_of_part : (r : ℕ) (op : PlainOp) (k d : ℕ) → d < 3 → step_at (op_part r op k) d ≡ op_step op (3 ^ (r - 1 - k)) d
step_of_part r op k zero h = refl
step_of_part r op k (suc zero) h = refl
step_of_part r op k (suc (suc zero)) h = refl
step_of_part r op k (suc (suc (suc d))) h = absurd (omega arith)

digits_joined : (a b w : ℕ) → a * (3 * w) + b * w ≡ (3 * a + b) * w
digits_joined a b w = grind arith

module _ (r : ℕ) (op : PlainOp) (parts : List (List Step)) (are : (k : ℕ) → k < r → get_or parts k [] ≡ op_part r op k) where
  part_is : (k d : ℕ) → k < r → d < 3 → part_at parts k d ≡ op_step op (3 ^ (r - 1 - k)) d
  part_is k d below small = ap (λ xs. step_at xs d) (are k below) ∙ step_of_part r op k d small

  front_to : (s : Sign) (k c : ℕ) → k ≤ r → (digit_step parts s k c).to ≡ number_of k (λ p. image op (digit_of k c p)) * 3 ^ (r - k)
  unfolding digit_step number_of
  front_to s zero c l = omega arith
  front_to s (suc k) c l =
      let w : ℕ = 3 ^ (r - 1 - k) in
      let f : ℕ → ℕ = λ p. image op (digit_of (suc k) c p) in
      let before : (digit_step parts s k (c / 3)).to ≡ number_of k (λ p. image op (digit_of k (c / 3) p)) * 3 ^ (r - k) = front_to s k (c / 3) (omega arith) in
      let front : number_of k f ≡ number_of k (λ p. image op (digit_of k (c / 3) p)) = number_of-same k f (λ p. image op (digit_of k (c / 3) p)) (λ p h. ap (image op) (digit_front k c p h)) in
      let last : f k ≡ image op (c % 3) = ap (image op) (digit_last k c) in
      let here : (part_at parts k (c % 3)).to ≡ image op (c % 3) * w = ap (λ x. x.to) (part_is k (c % 3) (omega arith) (omega arith)) in
      let place : r - k ≡ suc (r - 1 - k) = omega arith in
      let wide : 3 ^ (r - k) ≡ 3 * w = ap (λ x. 3 ^ x) place ∙ pow-succ' 3 (r - 1 - k) in
      let narrow : r - suc k ≡ r - 1 - k = omega arith in
      (λ i. before i + here i)
      ∙ (λ i. sym front i * wide i + sym last i * w)
      ∙ digits_joined (number_of k f) (f k) w
      ∙ ap (λ x. (3 * number_of k f + f k) * 3 ^ x) (sym narrow)

  front_sign : (s : Sign) (k c : ℕ) → k ≤ r → (digit_step parts s k c).sign ≡ times s (signs_of op (digit_of k c) k)
  unfolding digit_step
  front_sign s zero c l = sym (times_plus s)
  front_sign s (suc k) c l =
      let before : (digit_step parts s k (c / 3)).sign ≡ times s (signs_of op (digit_of k (c / 3)) k) = front_sign s k (c / 3) (omega arith) in
      let front : signs_of op (digit_of k (c / 3)) k ≡ signs_of op (digit_of (suc k) c) k = signs_of-same op (digit_of k (c / 3)) (digit_of (suc k) c) k (λ p h. sym (digit_front k c p h)) in
      let here : (part_at parts k (c % 3)).sign ≡ entry_sign op (digit_of (suc k) c k) = ap (λ x. x.sign) (part_is k (c % 3) (omega arith) (omega arith)) ∙ ap (entry_sign op) (sym (digit_last k c)) in
      (λ i. times (before i) (here i))
      ∙ ap (λ x. times (times s x) (entry_sign op (digit_of (suc k) c k))) front
      ∙ times-times s (signs_of op (digit_of (suc k) c) k) (entry_sign op (digit_of (suc k) c k))

  whole_row : (row : List Step) → IsDigitRow parts op.whole r row → IsOpRow r op row
  unfolding op_carried
  whole_row row d = record {
    len = d.len;
    to = λ c below.
        let one : r - r ≡ 0 = omega arith in
        ap (λ x. x.to) (d.each c below) ∙ front_to op.whole r c (omega arith)
        ∙ ap (λ x. number_of r (λ p. image op (digit_of r c p)) * 3 ^ x) one ∙ mul-one (number_of r (λ p. image op (digit_of r c p)));
    sign = λ c below. ap (λ x. x.sign) (d.each c below) ∙ front_sign op.whole r c (omega arith);
  }

-- the parts that are handed on
module _ (r n : ℕ) (op : PlainOp) (h : HasColumns op) (parts : List (List Step)) (few : r ≤ 6) (size : n ≡ r) (len : length parts ≡ 6) (are : (k : ℕ) → k < r → get_or parts k [] ≡ op_part r op k) where
  front_length : length (take n parts) ≡ r
  front_length = length-take-le n parts (omega arith) ∙ size

  front_is : (k : ℕ) → k < r → get_or (take n parts) k [] ≡ op_part r op k
  front_is k l = get_or-take n parts k [] (omega arith) ∙ are k l

  weight_small : (k : ℕ) → k < r → 3 ^ (r - 1 - k) ≤ 243
  weight_small k l =
      let power : 3 ^ suc (r - 1 - k) ≤ 729 = power_small (suc (r - 1 - k)) (omega arith) in
      let more : 3 ^ suc (r - 1 - k) ≡ 3 * 3 ^ (r - 1 - k) = pow-succ' 3 (r - 1 - k) in
      omega arith

  pub small_parts : AreParts (take n parts)
  small_parts = record {
    small = λ k d l small.
        let below : k < r = omega (arith, front_length) in
        let w : ℕ = 3 ^ (r - 1 - k) in
        let light : w ≤ 243 = weight_small k below in
        let is : (part_at (take n parts) k d).to ≡ image op d * w = ap (λ x. x.to) (part_is r op (take n parts) front_is k d below small) in
        let heavy : image op d * w ≤ 2 * w = twice (image op d) w (h.small d small) in
        omega arith;
  }
    where
      twice : (d w : ℕ) → d < 3 → d * w ≤ 2 * w
      twice zero w l = omega arith
      twice (suc zero) w l = omega arith
      twice (suc (suc zero)) w l = omega arith
      twice (suc (suc (suc d))) w l = absurd (omega arith)

  pub op_row : (row : List Step) → IsDigitRow (take n parts) op.whole (length (take n parts)) row → IsOpRow r op row
  op_row row d = whole_row r op (take n parts) front_is row (let P : ℕ → Type 0 = λ x. IsDigitRow (take n parts) op.whole x row in subst P front_length d)
