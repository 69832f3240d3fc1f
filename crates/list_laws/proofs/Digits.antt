-- Binary digits.
--   one_digit, ones_next    how many digits are 1, from one place to the next
--   digits_within, digits_outside    each digit 1 of a number is one of another
--   shifted_digit, next_told    the digits from a place on, and the next 1 among them
use Rattle.std.proofs.Common.{◌≡◌, ◌≢◌, ℕ, zero, suc, ◌+◌, ◌*◌, ◌/◌, ◌%◌, ◌^◌, ◌<◌, ◌≤◌, ◌-◌, cond, refl, ap, sym, ◌∙◌, arith, lit<, ◌⊎◌, inl, inr}
use Rattle.std.specs.Prelude.{nat_eq, bit_and}
use Rattle.std.specs.Int.{bit_at, w64, bit_not, trailing_zeros}
use Rattle.std.specs.Int.RustNames.{count_ones}
use Rattle.std.proofs.lemmas.Bool.{cases_eq, cases_lt}
use Rattle.std.proofs.Math.Nat.{pow-succ', div-one, div-div-eq-div-mul, div-le_self}
use Rattle.std.proofs.lemmas.Nat.{ones_cat, and_le_l}
use Rattle.std.proofs.lemmas.Nat.Bits.{bit_at-suc, bit_at-zero, bit_at_and, bit_at_not, bit_at-lt, bit_at_above, bit_at-trailing_zeros, same_from_bits_below}

pub one_digit : (b r : ℕ) → b < 2 → cond (nat_eq b 1) r (1 + r) + count_ones b ≡ 1 + r
unfolding count_ones
one_digit zero r h = omega arith
one_digit (suc zero) r h = omega arith
one_digit (suc (suc b)) r h = absurd (omega arith)

pub ones_next : (x : ℕ) → count_ones x ≡ count_ones (x / 2) + count_ones (x % 2)
ones_next x =
    let e : x / 2 * 2 ^ 1 + x % 2 ≡ x = omega arith in
    ap count_ones (sym e) ∙ ones_cat 1 (x / 2) (x % 2) (omega arith)

-- ---- each digit 1 is one of another
pub digits_within : (x y : ℕ) → x < 2 ^ 64 → y < 2 ^ 64 → bit_and x (bit_not w64 y) ≡ 0 → (i : ℕ) → i < 64 → bit_at x i ≡ 1 → bit_at y i ≡ 1
digits_within x y h l e i k o =
    let a = bit_at_and x (bit_not w64 y) i in
    let b = bit_at_not w64 y i l k in
    let c : bit_at (bit_and x (bit_not w64 y)) i ≡ 0 = ap (λ z. bit_at z i) e ∙ bit_at-zero i in
    let d = bit_at-lt y i in
    omega (arith, a, b, c, d, o)

pub digits_outside : (x y : ℕ) → x < 2 ^ 64 → y < 2 ^ 64 → ((i : ℕ) → i < 64 → bit_at x i ≡ 1 → bit_at y i ≡ 1) → bit_and x (bit_not w64 y) ≡ 0
digits_outside x y h l w =
    let b = and_le_l x (bit_not w64 y) in
    same_from_bits_below 64 (bit_and x (bit_not w64 y)) 0 (omega (arith, b)) (lit< tt) (λ i k. by i k (cases_eq (bit_at x i) 1) ∙ sym (bit_at-zero i))
  where
    by : (i : ℕ) → i < 64 → (bit_at x i ≡ 1) ⊎ (bit_at x i ≢ 1) → bit_at (bit_and x (bit_not w64 y)) i ≡ 0
    by i k (inl o) =
        let a = bit_at_and x (bit_not w64 y) i in
        let b = bit_at_not w64 y i l k in
        let c = w i k o in
        omega (arith, a, b, c, o)
    by i k (inr o) =
        let a = bit_at_and x (bit_not w64 y) i in
        let b = bit_at-lt x i in
        omega (arith, a, b, o)

-- ---- the digits from a place on
pub shifted_digit : (n k i : ℕ) → bit_at (n / 2 ^ k) i ≡ bit_at n (k + i)
shifted_digit n zero i =
    let e : i ≡ zero + i = omega arith in
    ap (λ x. bit_at x i) (div-one n) ∙ ap (bit_at n) e
shifted_digit n (suc k) i =
    let e : suc k + i ≡ suc (k + i) = omega arith in
    ap (λ x. bit_at (n / x) i) (pow-succ' 2 k) ∙ ap (λ x. bit_at x i) (sym (div-div-eq-div-mul n 2 (2 ^ k)))
    ∙ shifted_digit (n / 2) k i ∙ sym (bit_at-suc n (k + i)) ∙ ap (bit_at n) (sym e)

-- the least place from k on with a digit 1
pub next_told : (n k : ℕ) → n < 2 ^ 64 → n / 2 ^ k ≢ 0 →
    (k + trailing_zeros w64 (n / 2 ^ k) < 64) × (bit_at n (k + trailing_zeros w64 (n / 2 ^ k)) ≡ 1)
    × ((c : ℕ) → k ≤ c → c < k + trailing_zeros w64 (n / 2 ^ k) → bit_at n c ≡ 0)
next_told n k small some = (below (cases_lt (k + trailing_zeros w64 (n / 2 ^ k)) 64), one, before)
  where
    less : n / 2 ^ k < 2 ^ 64
    less = let l = div-le_self n (2 ^ k) in omega (arith, l, small)

    there : 0 < n / 2 ^ k
    there = omega (arith, some)

    one : bit_at n (k + trailing_zeros w64 (n / 2 ^ k)) ≡ 1
    one = sym (shifted_digit n k (trailing_zeros w64 (n / 2 ^ k))) ∙ (bit_at-trailing_zeros w64 (n / 2 ^ k) there less).1

    below : (k + trailing_zeros w64 (n / 2 ^ k) < 64) ⊎ (64 ≤ k + trailing_zeros w64 (n / 2 ^ k)) → k + trailing_zeros w64 (n / 2 ^ k) < 64
    below (inl h) = h
    below (inr h) = let no = bit_at_above n 64 (k + trailing_zeros w64 (n / 2 ^ k)) small h in absurd (omega (arith, one, no))

    before : (c : ℕ) → k ≤ c → c < k + trailing_zeros w64 (n / 2 ^ k) → bit_at n c ≡ 0
    before c h l =
        let e : k + (c - k) ≡ c = omega arith in
        ap (bit_at n) (sym e) ∙ sym (shifted_digit n k (c - k))
        ∙ (bit_at-trailing_zeros w64 (n / 2 ^ k) there less).2 (c - k) (omega arith)
