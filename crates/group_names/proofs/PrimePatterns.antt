-- Patterns of primes: numbers with their binary digits in the other order.
use Rattle.list_laws.proofs.Kit.{◌≡◌, ℕ, suc, ◌+◌, ◌*◌, ◌%◌, ◌/◌, ◌^◌, ◌<◌, ◌≤◌, ap, sym, ◌∙◌, arith, subst, add-one, pow-succ', add-mul, mul_assoc, mul_comm}
use Rattle.tensor_defs.specs.Names.{turned_bits}
use Rattle.list_laws.proofs.Tests.{power_four}

power_next : (n : ℕ) → 2 ^ suc n ≡ 2 * 2 ^ n
power_next n = pow-succ' 2 n

pub record IsTurning (count number digit turned rest : ℕ) : Type 0 where
  pub below : turned < 2 ^ digit
  pub same : (k : ℕ) → digit + k ≡ count → turned_bits count number ≡ turned * 2 ^ k + turned_bits k rest

pub turning_none : (count number : ℕ) → IsTurning count number 0 0 number
turning_none count number = record { below = omega arith; same = λ k e. let f : k ≡ count = omega arith in let g : turned_bits count number ≡ turned_bits k number = ap (λ n. turned_bits n number) (sym f) in omega (arith, g) }

regroup : (t p b s : ℕ) → t * (2 * p) + (b * p + s) ≡ (2 * t + b) * p + s
regroup t p b s = rw (add-mul (2 * t) b p, mul_assoc 2 t p) (omega (arith, doubled))
  where
    doubled : t * (2 * p) ≡ 2 * (t * p)
    doubled = sym (mul_assoc t 2 p) ∙ ap (λ x. x * p) (mul_comm t 2) ∙ mul_assoc 2 t p

step : (turned rest k : ℕ) → turned * 2 ^ suc k + turned_bits (suc k) rest ≡ (2 * turned + rest % 2) * 2 ^ k + turned_bits k (rest / 2)
step turned rest k = ap (λ x. turned * x + turned_bits (suc k) rest) (power_next k) ∙ regroup turned (2 ^ k) (rest % 2) (turned_bits k (rest / 2))

pub turning_more : (count number digit turned rest : ℕ) → IsTurning count number digit turned rest → IsTurning count number (digit + 1) (2 * turned + rest % 2) (rest / 2)
turning_more count number digit turned rest i = record {
  below = let h = i.below in let e = power_next digit in let f : 2 ^ (digit + 1) ≡ 2 ^ suc digit = ap (λ x. 2 ^ x) (add-one digit) in omega (arith, e, f);
  same = λ k e. let f : digit + suc k ≡ count = omega arith in i.same (suc k) f ∙ step turned rest k;
}

pub turning_done : (count number digit turned rest : ℕ) → IsTurning count number digit turned rest → digit ≡ count → turned ≡ turned_bits count number
turning_done count number digit turned rest i e = let s = i.same 0 (omega arith) in omega (arith, s)

pub turning_small : (count number digit turned rest : ℕ) → IsTurning count number digit turned rest → digit ≤ count → count ≤ 4 → turned < 16
turning_small count number digit turned rest i h k = let b = i.below in let p = power_four digit (omega arith) in omega (arith, b, p)

pub turning_below : (count number digit turned rest : ℕ) → IsTurning count number digit turned rest → digit ≡ count → turned < 2 ^ count
turning_below count number digit turned rest i e = subst (λ n. turned < 2 ^ n) e i.below
