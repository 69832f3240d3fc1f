-- Numbers times 2^n over 2^m.
--   pow2            2^k as a number
--   even, up, down  where n is m; where it is greater; where it is less
--   weighted_zero   a number that isn't 0 stays so
--   unit_small      1 and -1 stay below the limit
use Rattle.list_laws.proofs.Kit.{◌≡◌, ◌≢◌, ℕ, zero, suc, ◌+◌, ◌-◌, ◌^◌, ◌<◌, ◌≤◌, refl, ap, sym, ◌∙◌, subst, arith, inl, inr, lit<, cases_lt, one-dvd}
use lib.IntN.{ℤ, pos, negsuc, neg_ℤ}
use Rattle.tensor_defs.specs.declared.Sign.{Sign}
use Rattle.tensor_defs.specs.declared.Sign.TheVariants.{Plus, Minus}
use Rattle.tensor_defs.specs.Prelude.{Number, Fraction, mul, num_zero, num_one, whole, half_of, fraction, over, value_of, same_numbers, ReachesLimit, halved}
use Rattle.number_laws.proofs.NumberLaws.{num_mul_assoc, num_mul-one, num_mul-zero, num_one-mul, ring}
use Rattle.exact_frac.specs.Held.{IsHeld, IsHeldAs}
use Rattle.exact_frac.proofs.Overs.{over-is_zero, over-mul, over-zero}
use Rattle.number_laws.proofs.Fractions.{over-whole}
use Rattle.exact_frac.proofs.Parts.{held-not_large}
use Rattle.reduced_form.specs.Forms.{sign_whole, unit_fraction}

abbrev pub pow2 : ℕ → Number
pow2 k = whole (pos (2 ^ k))

abbrev half : Number
half = half_of (pos 1) (pos 0)

abbrev halves : ℕ → Number
halves n = halved n num_one

halved_is : (n : ℕ) (y : Number) → halved n y ≡ mul (halves n) y
halved_is zero y = sym (num_one-mul y)
halved_is (suc n) y = ap (mul half) (halved_is n y) ∙ sym (num_mul_assoc half (halves n) y)

halves_back : (n : ℕ) → n ≤ 2 → mul (halves n) (pow2 n) ≡ num_one
unfolding mul whole half_of
halves_back zero h = same_numbers _ _ (record { same_p = refl; same_q = refl })
halves_back (suc zero) h = same_numbers _ _ (record { same_p = refl; same_q = refl })
halves_back (suc (suc zero)) h = same_numbers _ _ (record { same_p = refl; same_q = refl })
halves_back (suc (suc (suc n))) h = absurd (omega arith)

pow2_add : (m k : ℕ) → m + k ≤ 2 → pow2 (m + k) ≡ mul (pow2 m) (pow2 k)
unfolding mul whole
pow2_add zero zero h = same_numbers _ _ (record { same_p = refl; same_q = refl })
pow2_add zero (suc zero) h = same_numbers _ _ (record { same_p = refl; same_q = refl })
pow2_add zero (suc (suc zero)) h = same_numbers _ _ (record { same_p = refl; same_q = refl })
pow2_add zero (suc (suc (suc k))) h = absurd (omega arith)
pow2_add (suc zero) zero h = same_numbers _ _ (record { same_p = refl; same_q = refl })
pow2_add (suc zero) (suc zero) h = same_numbers _ _ (record { same_p = refl; same_q = refl })
pow2_add (suc zero) (suc (suc k)) h = absurd (omega arith)
pow2_add (suc (suc zero)) zero h = same_numbers _ _ (record { same_p = refl; same_q = refl })
pow2_add (suc (suc zero)) (suc k) h = absurd (omega arith)
pow2_add (suc (suc (suc m))) k h = absurd (omega arith)

-- ---- the three cases
pub even : (n : ℕ) (x : Number) → n ≤ 2 → halved n (mul (pow2 n) x) ≡ x
even n x h =
    halved_is n (mul (pow2 n) x) ∙ sym (num_mul_assoc (halves n) (pow2 n) x)
    ∙ ap (λ y. mul y x) (halves_back n h) ∙ num_one-mul x

shuffle_up : (a b c x : Number) → mul a (mul (mul b c) x) ≡ mul (mul a b) (mul x c)
shuffle_up a b c x = simp ring

pub up : (m k : ℕ) (x : Number) → m + k ≤ 2 → halved m (mul (pow2 (m + k)) x) ≡ mul x (pow2 k)
up m k x h =
    halved_is m (mul (pow2 (m + k)) x) ∙ ap (λ y. mul (halves m) (mul y x)) (pow2_add m k h)
    ∙ shuffle_up (halves m) (pow2 m) (pow2 k) x
    ∙ ap (λ y. mul y (mul x (pow2 k))) (halves_back m (omega arith)) ∙ num_one-mul (mul x (pow2 k))

shuffle_down : (a b c x i : Number) → mul a (mul b (mul x (mul c i))) ≡ mul (mul a (mul b c)) (mul x i)
shuffle_down a b c x i = simp ring

pub down : (n k : ℕ) (x i : Number) → n + k ≤ 2 → mul (pow2 k) i ≡ num_one →
    halved (n + k) (mul (pow2 n) x) ≡ mul x i
down n k x i h one =
    halved_is (n + k) (mul (pow2 n) x)
    ∙ ap (λ y. mul (halves (n + k)) (mul (pow2 n) y)) (sym (ap (mul x) one ∙ num_mul-one x))
    ∙ shuffle_down (halves (n + k)) (pow2 n) (pow2 k) x i
    ∙ ap (λ y. mul (mul (halves (n + k)) y) (mul x i)) (sym (pow2_add n k h))
    ∙ ap (λ y. mul y (mul x i)) (halves_back (n + k) h) ∙ num_one-mul (mul x i)

-- ---- 0
abbrev AwayFromZero : ℤ → Type 0
AwayFromZero (pos zero) = ⊥
AwayFromZero (pos (suc n)) = Unit {0}
AwayFromZero (negsuc n) = Unit {0}

pub pow2_not_zero : (k : ℕ) → k ≤ 2 → pow2 k ≡ num_zero → ⊥
pow2_not_zero k h e =
    let one : num_one ≡ num_zero = sym (halves_back k h) ∙ ap (mul (halves k)) e ∙ num_mul-zero (halves k) in
    let same : pos 1 ≡ pos 0 = over-is_zero (pos 1) 1 (lit< tt) (over-whole (pos 1) ∙ one) in
    subst AwayFromZero same tt

shuffle_back : (a b c d x : Number) → mul (mul c d) (mul a (mul b x)) ≡ mul (mul c b) (mul (mul a d) x)
shuffle_back a b c d x = simp ring

pub weighted_zero : (n m : ℕ) (x : Number) → n ≤ 2 → m ≤ 2 → halved m (mul (pow2 n) x) ≡ num_zero → x ≡ num_zero
weighted_zero n m x h l e =
    let back : Number = mul (halves n) (pow2 m) in
    let whole_x : mul back (mul (halves m) (mul (pow2 n) x)) ≡ x =
    shuffle_back (halves m) (pow2 n) (halves n) (pow2 m) x
    ∙ (λ i. mul (halves_back n h i) (mul (halves_back m l i) x)) ∙ num_one-mul (mul num_one x) ∙ num_one-mul x in
    sym whole_x ∙ ap (mul back) (sym (halved_is m (mul (pow2 n) x)) ∙ e) ∙ num_mul-zero back

pub proper_stays : (n m : ℕ) (f g : Fraction) → n ≤ 2 → m ≤ 2 → 0 < f.den → f.num ≢ pos 0 →
    IsHeldAs (halved m (mul (pow2 n) (value_of f))) g → g.num ≢ pos 0
proper_stays n m f g h l positive away held e =
    let zero_g : value_of g ≡ num_zero = ap (λ z. over z g.den) e ∙ over-zero g.den in
    away (over-is_zero f.num f.den positive (weighted_zero n m (value_of f) h l (held.same ∙ zero_g)))

-- ---- 1 and -1
abbrev times_pow2 : Sign → ℕ → Fraction
times_pow2 Plus k = record { num = pos (2 ^ k); den = 1 }
times_pow2 Minus k = record { num = neg_ℤ (pos (2 ^ k)); den = 1 }

abbrev over_pow2 : Sign → ℕ → Fraction
over_pow2 s k = record { num = sign_whole s; den = 2 ^ k }

up_held : (s : Sign) (k : ℕ) → k ≤ 2 → IsHeld (times_pow2 s k)
up_held Plus zero h = record { terms = record { positive = lit< tt; lowest = (one-dvd 1, one-dvd 1, λ d p q. q) }; small_num = lit< tt; small_den = lit< tt }
up_held Plus (suc zero) h = record { terms = record { positive = lit< tt; lowest = (one-dvd 2, one-dvd 1, λ d p q. q) }; small_num = lit< tt; small_den = lit< tt }
up_held Plus (suc (suc zero)) h = record { terms = record { positive = lit< tt; lowest = (one-dvd 4, one-dvd 1, λ d p q. q) }; small_num = lit< tt; small_den = lit< tt }
up_held Minus zero h = record { terms = record { positive = lit< tt; lowest = (one-dvd 1, one-dvd 1, λ d p q. q) }; small_num = lit< tt; small_den = lit< tt }
up_held Minus (suc zero) h = record { terms = record { positive = lit< tt; lowest = (one-dvd 2, one-dvd 1, λ d p q. q) }; small_num = lit< tt; small_den = lit< tt }
up_held Minus (suc (suc zero)) h = record { terms = record { positive = lit< tt; lowest = (one-dvd 4, one-dvd 1, λ d p q. q) }; small_num = lit< tt; small_den = lit< tt }
up_held s (suc (suc (suc k))) h = absurd (omega arith)

down_held : (s : Sign) (k : ℕ) → k ≤ 2 → IsHeld (over_pow2 s k)
down_held Plus zero h = record { terms = record { positive = lit< tt; lowest = (one-dvd 1, one-dvd 1, λ d p q. p) }; small_num = lit< tt; small_den = lit< tt }
down_held Plus (suc zero) h = record { terms = record { positive = lit< tt; lowest = (one-dvd 1, one-dvd 2, λ d p q. p) }; small_num = lit< tt; small_den = lit< tt }
down_held Plus (suc (suc zero)) h = record { terms = record { positive = lit< tt; lowest = (one-dvd 1, one-dvd 4, λ d p q. p) }; small_num = lit< tt; small_den = lit< tt }
down_held Minus zero h = record { terms = record { positive = lit< tt; lowest = (one-dvd 1, one-dvd 1, λ d p q. p) }; small_num = lit< tt; small_den = lit< tt }
down_held Minus (suc zero) h = record { terms = record { positive = lit< tt; lowest = (one-dvd 1, one-dvd 2, λ d p q. p) }; small_num = lit< tt; small_den = lit< tt }
down_held Minus (suc (suc zero)) h = record { terms = record { positive = lit< tt; lowest = (one-dvd 1, one-dvd 4, λ d p q. p) }; small_num = lit< tt; small_den = lit< tt }
down_held s (suc (suc (suc k))) h = absurd (omega arith)

times_same : (s : Sign) (k : ℕ) → k ≤ 2 → mul (value_of (unit_fraction s)) (pow2 k) ≡ value_of (times_pow2 s k)
times_same Plus zero h = ap (mul _) (sym (over-whole (pos 1))) ∙ over-mul (pos 1) (pos 1) 1 1 (lit< tt) (lit< tt)
times_same Plus (suc zero) h = ap (mul _) (sym (over-whole (pos 2))) ∙ over-mul (pos 1) (pos 2) 1 1 (lit< tt) (lit< tt)
times_same Plus (suc (suc zero)) h = ap (mul _) (sym (over-whole (pos 4))) ∙ over-mul (pos 1) (pos 4) 1 1 (lit< tt) (lit< tt)
times_same Minus zero h = ap (mul _) (sym (over-whole (pos 1))) ∙ over-mul (negsuc 0) (pos 1) 1 1 (lit< tt) (lit< tt)
times_same Minus (suc zero) h = ap (mul _) (sym (over-whole (pos 2))) ∙ over-mul (negsuc 0) (pos 2) 1 1 (lit< tt) (lit< tt)
times_same Minus (suc (suc zero)) h = ap (mul _) (sym (over-whole (pos 4))) ∙ over-mul (negsuc 0) (pos 4) 1 1 (lit< tt) (lit< tt)
times_same s (suc (suc (suc k))) h = absurd (omega arith)

over_same : (s : Sign) (k : ℕ) → k ≤ 2 → mul (value_of (unit_fraction s)) (over (pos 1) (2 ^ k)) ≡ value_of (over_pow2 s k)
over_same Plus zero h = over-mul (pos 1) (pos 1) 1 1 (lit< tt) (lit< tt)
over_same Plus (suc zero) h = over-mul (pos 1) (pos 1) 1 2 (lit< tt) (lit< tt)
over_same Plus (suc (suc zero)) h = over-mul (pos 1) (pos 1) 1 4 (lit< tt) (lit< tt)
over_same Minus zero h = over-mul (negsuc 0) (pos 1) 1 1 (lit< tt) (lit< tt)
over_same Minus (suc zero) h = over-mul (negsuc 0) (pos 1) 1 2 (lit< tt) (lit< tt)
over_same Minus (suc (suc zero)) h = over-mul (negsuc 0) (pos 1) 1 4 (lit< tt) (lit< tt)
over_same s (suc (suc (suc k))) h = absurd (omega arith)

back_of : (k : ℕ) → k ≤ 2 → mul (pow2 k) (over (pos 1) (2 ^ k)) ≡ num_one
unfolding mul whole over fraction
back_of zero h = same_numbers _ _ (record { same_p = refl; same_q = refl })
back_of (suc zero) h = same_numbers _ _ (record { same_p = refl; same_q = refl })
back_of (suc (suc zero)) h = same_numbers _ _ (record { same_p = refl; same_q = refl })
back_of (suc (suc (suc k))) h = absurd (omega arith)

pub unit_small : (n m : ℕ) (s : Sign) → n ≤ 2 → m ≤ 2 →
    ReachesLimit (halved m (mul (pow2 n) (value_of (unit_fraction s)))) → ⊥
unit_small n m s h l r = elim (cases_lt n m) as (λ _. ⊥) [
  | inl p ↦
      let k : ℕ = m - n in
      let sum : n + k ≡ m = omega arith in
      let small : n + k ≤ 2 = omega arith in
      let value : halved m (mul (pow2 n) (value_of (unit_fraction s))) ≡ value_of (over_pow2 s k) =
      ap (λ x. halved x (mul (pow2 n) (value_of (unit_fraction s)))) (sym sum)
      ∙ down n k (value_of (unit_fraction s)) (over (pos 1) (2 ^ k)) small (back_of k (omega arith)) ∙ over_same s k (omega arith) in
      held-not_large _ (over_pow2 s k) (record { same = value; held = down_held s k (omega arith) }) r
  | inr p ↦
      let k : ℕ = n - m in
      let sum : m + k ≡ n = omega arith in
      let small : m + k ≤ 2 = omega arith in
      let value : halved m (mul (pow2 n) (value_of (unit_fraction s))) ≡ value_of (times_pow2 s k) =
      ap (λ x. halved m (mul (pow2 x) (value_of (unit_fraction s)))) (sym sum)
      ∙ up m k (value_of (unit_fraction s)) small ∙ times_same s k (omega arith) in
      held-not_large _ (times_pow2 s k) (record { same = value; held = up_held s k (omega arith) }) r
]
