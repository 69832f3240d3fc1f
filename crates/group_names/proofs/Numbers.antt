-- Numbers whose binary digits tell of numbers below 64.
--   number_agrees    two facts with one number hold of the same numbers
--   number_same      two facts that hold of the same numbers have one number
--   digits_below, digits_number    the number of a test
use Rattle.list_laws.proofs.Kit.{◌≡◌, ℕ, zero, suc, ◌+◌, ◌-◌, ◌*◌, ◌^◌, ◌<◌, ◌≤◌, Bool, true, false, cond, refl, ap, sym, ◌∙◌, arith, ◌⊎◌, inl, inr}
use Rattle.list_laws.proofs.Kit.{bit_at, pow-succ', cases_lt, false≢true, bit_at-lt, bit_at_cat_low, bit_at_cat_high, same_from_bits_below}
use Rattle.std.specs.Prelude.{◌↔◌}
use Rattle.group_names.specs.LookUps.{IsNumberOf}
use Rattle.group_names.proofs.Matrices.{digits_of}

pub number_agrees : (P Q : ℕ → Type 0) (m : ℕ) → IsNumberOf P m → IsNumberOf Q m → (c : ℕ) → c < 64 → P c → Q c
number_agrees P Q m r s c l p = (s c l).0 ((r c l).1 p)

pub number_same : (P Q : ℕ → Type 0) (m k : ℕ) → m < 2 ^ 64 → k < 2 ^ 64 → IsNumberOf P m → IsNumberOf Q k → ((c : ℕ) → c < 64 → P c ↔ Q c) → m ≡ k
number_same P Q m k h l r s w = same_from_bits_below 64 m k h l (λ c n. by c n (cases_lt (bit_at m c) 1) (cases_lt (bit_at k c) 1))
  where
    one : (n : ℕ) → n < 2 → 1 ≤ n → n ≡ 1
    one n h l = omega arith

    by : (c : ℕ) → c < 64 → (bit_at m c < 1) ⊎ (1 ≤ bit_at m c) → (bit_at k c < 1) ⊎ (1 ≤ bit_at k c) → bit_at m c ≡ bit_at k c
    by c n (inl a) (inl b) = omega arith
    by c n (inr a) (inr b) = one (bit_at m c) (bit_at-lt m c) a ∙ sym (one (bit_at k c) (bit_at-lt k c) b)
    by c n (inl a) (inr b) =
        let e : bit_at m c ≡ 1 = (r c n).1 ((w c n).1 ((s c n).0 (one (bit_at k c) (bit_at-lt k c) b))) in
        absurd (omega (arith, a, e))
    by c n (inr a) (inl b) =
        let e : bit_at k c ≡ 1 = (s c n).1 ((w c n).0 ((r c n).0 (one (bit_at m c) (bit_at-lt m c) a))) in
        absurd (omega (arith, b, e))

digit_small : (b : Bool) (k n : ℕ) → k < n → cond b 1 0 * n + k < 2 * n
digit_small true k n h = omega arith
digit_small false k n h = omega arith

pub digits_below : (p : ℕ → Bool) (n : ℕ) → digits_of p n < 2 ^ n
digits_below p zero = omega arith
digits_below p (suc n) = rw (pow-succ' 2 n) (digit_small (p n) (digits_of p n) (2 ^ n) (digits_below p n))

lowest : (b : Bool) → bit_at (cond b 1 0) 0 ≡ cond b 1 0
lowest true = refl
lowest false = refl

digits_at : (p : ℕ → Bool) (n c : ℕ) → c < n → bit_at (digits_of p n) c ≡ cond (p c) 1 0
digits_at p zero c h = absurd (omega arith)
digits_at p (suc n) c h = next (cases_lt c n) (digits_at p n c)
  where
    next : (c < n) ⊎ (n ≤ c) → (c < n → bit_at (digits_of p n) c ≡ cond (p c) 1 0) →
        bit_at (cond (p n) 1 0 * 2 ^ n + digits_of p n) c ≡ cond (p c) 1 0
    next (inl l) r = bit_at_cat_low (cond (p n) 1 0) n (digits_of p n) c l ∙ r l
    next (inr l) r =
        let e : c ≡ n = omega arith in
        let z : c - n ≡ 0 = omega arith in
        bit_at_cat_high (cond (p n) 1 0) n (digits_of p n) c (digits_below p n) l
        ∙ ap (bit_at (cond (p n) 1 0)) z ∙ lowest (p n) ∙ ap (λ x. cond (p x) 1 0) (sym e)

digit_told : (b : Bool) (n : ℕ) → n ≡ cond b 1 0 → (n ≡ 1) ↔ (b ≡ true)
digit_told true n e = (λ h. refl, λ h. e)
digit_told false n e = (λ h. absurd (omega arith), λ h. absurd (false≢true h))

pub digits_number : (p : ℕ → Bool) → IsNumberOf (λ c. p c ≡ true) (digits_of p 64)
digits_number p c h = digit_told (p c) (bit_at (digits_of p 64) c) (digits_at p 64 c h)
