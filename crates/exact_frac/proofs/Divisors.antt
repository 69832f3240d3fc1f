-- Parts without a common divisor.
--   factor-1    a number that divides is a factor
--   apart-divisor    what has no divisor in common with b has none with a divisor of b
--   apart-mul    nor with a product
--   gcd-mul    a factor with no divisor in common goes
--   sum-apart    p·r + q·l has no divisor in common with l where neither p nor r has
--   product-lowest    the parts of a product, the common divisors crosswise taken out
--   sum-lowest    p·r + q·l has no divisor in common with l·r, l and r being what is left of denominators m and n
use Rattle.list_laws.proofs.Kit.{◌≡◌, ℕ, ◌+◌, ◌*◌, ◌/◌, ◌%◌, ◌<◌, ◌⊎◌, inl, inr, ap, sym, ◌∙◌, subst, arith, IsGcd, div-mul_cancel, dvd_of_mul-dvd-mul_right}
use Rattle.list_laws.proofs.Kit.{mul-dvd-mul_right, one-dvd, eq-zero-or-pos, one-mul, IsGcd-swap, IsGcd-from_mod, unsigned_abs-mul}
use Rattle.std.specs.Prelude.{unsigned_abs}
use Prim.Native.Nat.{◌∣◌}
use Rattle.std.proofs.Math.Nat.{dvd_refl}
use native.Mathlib.Nat.{dvd-mul_left_of_dvd, dvd-add_iff_right, dvd_trans}
use borrow.Author.Differences.{ints}
use lib.IntN.{ℤ, pos, negsuc, ◌+ℤ◌, ◌*ℤ◌, +ℤ_comm}
use Rattle.tensor_defs.specs.IntRing.{positive_mul}
use Rattle.number_laws.proofs.Gauss.{gauss}

pub gcd-one : (a : ℕ) → IsGcd a 1 1
gcd-one a = (one-dvd a, dvd_refl 1, λ d p q. q)

pub gcd-halves : IsGcd 1 2 1
gcd-halves = (dvd_refl 1, one-dvd 2, λ d p q. p)

pub gcd-positive : (a b g : ℕ) → 0 < b → IsGcd a b g → 0 < g
gcd-positive a b g h k = elim (eq-zero-or-pos g) [
  | inl e ↦ absurd (omega (arith, le_zero b (subst (λ x. x ∣ b) e k.1)))
  | inr p ↦ p
]
  where
    le_zero : (b : ℕ) → 0 ∣ b → b ≡ 0
    le_zero b p = sym (div-mul_cancel 0 p) ∙ omega arith

-- a number that divides is a factor
pub factor-1 : (a b g : ℕ) → IsGcd a b g → a / g * g ≡ a
factor-1 a b g k = div-mul_cancel g k.0

pub factor-2 : (a b g : ℕ) → IsGcd a b g → b / g * g ≡ b
factor-2 a b g k = div-mul_cancel g k.1

pub part-positive : (b g q : ℕ) → 0 < b → q * g ≡ b → 0 < q
part-positive b g q h e = elim (eq-zero-or-pos q) [
  | inl z ↦ absurd (omega (arith, sym e ∙ ap (λ x. x * g) z))
  | inr p ↦ p
]

pub parts-lowest : (a b g k e : ℕ) → 0 < b → IsGcd a b g → k * g ≡ a → e * g ≡ b → IsGcd k e 1
parts-lowest a b g k e h l u v = (
  one-dvd _,
  one-dvd _,
  λ d p q.
      dvd_of_mul-dvd-mul_right d (gcd-positive a b g h l) (subst (λ x. d * g ∣ x) (sym (one-mul g)) (l.2 (d * g)
      (subst (λ x. d * g ∣ x) u (mul-dvd-mul_right d p g))
      (subst (λ x. d * g ∣ x) v (mul-dvd-mul_right d q g)))),
)

-- what has no divisor in common with b has none with a divisor of b
pub apart-divisor : (a b c : ℕ) → IsGcd a b 1 → c ∣ b → IsGcd a c 1
apart-divisor a b c h r = (one-dvd _, one-dvd _, λ d p q. h.2 d p (dvd_trans d q r))

pub apart-factor : (a b g q : ℕ) → IsGcd a b 1 → q * g ≡ b → IsGcd a q 1
apart-factor a b g q h e = apart-divisor a b q h (subst (λ x. q ∣ x) e (right q g))
  where
    right : (q g : ℕ) → q ∣ q * g
    right q g = subst (λ x. q ∣ x) (omega arith) (dvd-mul_left_of_dvd q (dvd_refl q) g)

apart-under : (a b d : ℕ) → IsGcd a b 1 → d ∣ a → IsGcd d b 1
apart-under a b d h p = IsGcd-swap b d 1 (apart-divisor b a d (IsGcd-swap a b 1 h) p)

pub apart-parts : (a b k g e h : ℕ) → IsGcd a b 1 → k * g ≡ a → e * h ≡ b → IsGcd k e 1
apart-parts a b k g e h l u v =
    IsGcd-swap e k 1 (apart-factor e a g k (IsGcd-swap a e 1 (apart-factor a b h e l v)) u)

-- nor with a product
pub apart-mul : (a b c : ℕ) → IsGcd a b 1 → IsGcd a c 1 → IsGcd a (b * c) 1
apart-mul a b c h k =
    (one-dvd _, one-dvd _, λ d p q. k.2 d p (gauss d b c (apart-under a b d h p) q))

-- a factor with no divisor in common goes
pub gcd-mul : (t w g h : ℕ) → IsGcd t w 1 → IsGcd t g h → IsGcd t (w * g) h
gcd-mul t w g h k l =
    (l.0, dvd-mul_left_of_dvd h l.1 w, λ d p q. l.2 d p (gauss d w g (apart-under t w d k p) q))

-- the size of a sum is the sum of the sizes, or one size is the sum of the other and of the sum's
size-cases : (x y : ℤ) → (unsigned_abs (x +ℤ y) ≡ unsigned_abs y + unsigned_abs x)
    ⊎ (unsigned_abs y + unsigned_abs (x +ℤ y) ≡ unsigned_abs x) ⊎ (unsigned_abs (x +ℤ y) + unsigned_abs x ≡ unsigned_abs y)
size-cases (pos a) (pos b) = inl (omega arith)
size-cases (pos a) (negsuc b) = grind (arith, ints)
size-cases (negsuc a) (pos b) = grind (arith, ints)
size-cases (negsuc a) (negsuc b) = inl (omega arith)

divides-left : (x y : ℤ) (d : ℕ) → d ∣ unsigned_abs (x +ℤ y) → d ∣ unsigned_abs y → d ∣ unsigned_abs x
divides-left x y d p q = elim (size-cases x y) [
  | inl e ↦ (dvd-add_iff_right d q).1 (subst (λ n. d ∣ n) e p)
  | inr (inl e) ↦ subst (λ n. d ∣ n) e ((dvd-add_iff_right d q).0 p)
  | inr (inr e) ↦ (dvd-add_iff_right d p).1 (subst (λ n. d ∣ n) (sym e) q)
]

-- p·r + q·l has no divisor in common with l where neither p nor r has
pub sum-apart : (p q : ℤ) (r l : ℕ) → IsGcd (unsigned_abs p) l 1 → IsGcd r l 1 →
    IsGcd (unsigned_abs ((p *ℤ pos r) +ℤ (q *ℤ pos l))) l 1
sum-apart p q r l h k =
    let both : IsGcd l (unsigned_abs p * r) 1 =
    apart-mul l (unsigned_abs p) r (IsGcd-swap _ _ 1 h) (IsGcd-swap _ _ 1 k) in (
      one-dvd _,
      one-dvd _,
      λ d s t.
          let y : d ∣ unsigned_abs (q *ℤ pos l) = subst (λ n. d ∣ n) (sym (unsigned_abs-mul q (pos l)))
          (dvd-mul_left_of_dvd d t (unsigned_abs q)) in
          both.2 d t (subst (λ n. d ∣ n) (unsigned_abs-mul p (pos r)) (divides-left (p *ℤ pos r) (q *ℤ pos l) d s y)),
    )

-- the parts of a product, the common divisors crosswise taken out
pub product-lowest : (a m b n f s k o l r : ℕ) → 0 < m → 0 < n → IsGcd a m 1 → IsGcd b n 1 → IsGcd a n f → IsGcd b m s →
    k * f ≡ a → o * s ≡ b → l * s ≡ m → r * f ≡ n → IsGcd (k * o) (l * r) 1
product-lowest a m b n f s k o l r hm hn u v first second ek eo el er =
    let kl : IsGcd k l 1 = apart-parts a m k f l s u ek el in
    let or : IsGcd o r 1 = apart-parts b n o s r f v eo er in
    let kr : IsGcd k r 1 = parts-lowest a n f k r hn first ek er in
    let ol : IsGcd o l 1 = parts-lowest b m s o l hm second eo el in
    apart-mul (k * o) l r
    (IsGcd-swap l (k * o) 1 (apart-mul l k o (IsGcd-swap k l 1 kl) (IsGcd-swap o l 1 ol)))
    (IsGcd-swap r (k * o) 1 (apart-mul r k o (IsGcd-swap k r 1 kr) (IsGcd-swap o r 1 or)))

-- p·r + q·l has no divisor in common with l·r, l and r being what is left of denominators m and n
pub sum-lowest : (p q : ℤ) (m n g l r : ℕ) → 0 < n → IsGcd (unsigned_abs p) m 1 → IsGcd (unsigned_abs q) n 1 → IsGcd m n g →
    l * g ≡ m → r * g ≡ n → IsGcd (unsigned_abs ((p *ℤ pos r) +ℤ (q *ℤ pos l))) (l * r) 1
sum-lowest p q m n g l r h u v k el er =
    let lr : IsGcd l r 1 = parts-lowest m n g l r h k el er in
    apart-mul _ l r
    (sum-apart p q r l (apart-factor (unsigned_abs p) m g l u el) (IsGcd-swap l r 1 lr))
    (subst (λ z. IsGcd (unsigned_abs z) r 1) (+ℤ_comm (q *ℤ pos l) (p *ℤ pos r))
    (sum-apart q p l r (apart-factor (unsigned_abs q) n g r v er) lr))

-- the common divisor of n and rest·common, from the remainder of n, where n and rest have none
sum-divisor : (n rest common g m : ℕ) → IsGcd n rest 1 → m ≡ n % common → IsGcd m common g → IsGcd n (rest * common) g
sum-divisor n rest common g m h e k =
    gcd-mul n rest common g h
    (IsGcd-from_mod n common g (IsGcd-swap (n % common) common g (subst (λ x. IsGcd x common g) e k)))

pub sum-top : (n rest common g m k : ℕ) → 0 < common → IsGcd n rest 1 → m ≡ n % common → IsGcd m common g → k ≡ n / g → k * g ≡ n
sum-top n rest common g m k h l e u v =
    ap (λ x. x * g) v ∙ factor-1 n (rest * common) g (sum-divisor n rest common g m l e u)

pub sum-bottom : (rest common g m : ℕ) → IsGcd m common g → (rest * (common / g)) * g ≡ rest * common
sum-bottom rest common g m u = assoc rest (common / g) g ∙ ap (λ x. rest * x) (factor-2 m common g u)
  where
    assoc : (a b c : ℕ) → (a * b) * c ≡ a * (b * c)
    assoc a b c = omega arith

pub sum-parts : (n rest common g m k : ℕ) → 0 < rest → 0 < common → IsGcd n rest 1 → m ≡ n % common → IsGcd m common g →
    k ≡ n / g → IsGcd k (rest * (common / g)) 1
sum-parts n rest common g m k hr h l e u v =
    parts-lowest n (rest * common) g k (rest * (common / g)) (positive_mul hr h) (sum-divisor n rest common g m l e u)
    (sum-top n rest common g m k h l e u v) (sum-bottom rest common g m u)
