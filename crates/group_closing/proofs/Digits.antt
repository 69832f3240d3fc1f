-- Marks told by binary digits.
--   marks_length, digit_told    the marks at their places
--   no_digits      no marks
--   has_primed, has_unprimed, more_primed, more_unprimed    one of them, read and set
--   count_told     how many places aren't marked
--   within_told    each mark is among others
--   either_told    the matrices that are marked
--   gap_skipped    matrices that aren't marked
use Rattle.list_laws.proofs.Kit.{◌≡◌, ◌≢◌, ℕ, zero, suc, ◌+◌, ◌*◌, ◌/◌, ◌%◌, ◌^◌, ◌<◌, ◌≤◌, ◌-◌, Bool, true, false, cond, List, length, refl, ap, sym, ◌∙◌}
use Rattle.list_laws.proofs.Kit.{arith, subst, ◌⊎◌, inl, inr, bit_at, bit_not, cases_eq, cases_lt, eqb-true, length-set, get_or-set_same, get_or-set_other}
use Rattle.list_laws.proofs.Kit.{fill_by_all, pow-succ', bit_at_lowest, bit_at-suc, shr_and_one, bit_at_or, bit_at_set_same, bit_at_set_other, bit_at-lt}
use Rattle.std.specs.Prelude.{nat_eq, replicate, set, bit_and, bit_or, IsTrue, ◌↔◌}
use Rattle.std.specs.Int.{w64}
use Rattle.std.specs.Int.RustNames.{count_ones}
use Rattle.list_laws.proofs.Digits.{one_digit, ones_next, digits_within, digits_outside}
use Rattle.group_closing.specs.Marks.{mark_at, marked_below, unmarked, digit_at, marks_from, marks_of, AreWithin}
use Rattle.group_closing.proofs.Marked.{marked_past_both}

from_length : (n u p : ℕ) → length (marks_from n u p) ≡ 2 * n
from_length zero u p = refl
from_length (suc n) u p = let l = from_length n (u / 2) (p / 2) in omega (arith, l)

pub marks_length : (u p : ℕ) → length (marks_of u p) ≡ 128
unfolding marks_of
marks_length u p = from_length 64 u p

digit_next : (u p i : ℕ) (b : Bool) → nat_eq (bit_at (cond b (p / 2) (u / 2)) i) 1 ≡ nat_eq (bit_at (cond b p u) (suc i)) 1
digit_next u p i true = ap (λ x. nat_eq x 1) (sym (bit_at-suc p i))
digit_next u p i false = ap (λ x. nat_eq x 1) (sym (bit_at-suc u i))

from_told : (n u p k : ℕ) → k < 2 * n → mark_at (marks_from n u p) k ≡ digit_at u p k
from_told zero u p k h = absurd (omega arith)
from_told (suc n) u p zero h = ap (λ x. nat_eq x 1) (sym (bit_at_lowest u))
from_told (suc n) u p (suc zero) h = ap (λ x. nat_eq x 1) (sym (bit_at_lowest p))
from_told (suc n) u p (suc (suc k)) h =
    let e : suc (suc k) % 2 ≡ k % 2 = omega arith in
    let f : suc (suc k) / 2 ≡ suc (k / 2) = omega arith in
    from_told n (u / 2) (p / 2) k (omega arith)
    ∙ digit_next u p (k / 2) (nat_eq (k % 2) 1)
    ∙ ap (λ x. nat_eq (bit_at (cond (nat_eq x 1) p u) (suc (k / 2))) 1) (sym e)
    ∙ ap (λ x. nat_eq (bit_at (cond (nat_eq (suc (suc k) % 2) 1) p u) x) 1) (sym f)

pub digit_told : (u p k : ℕ) → k < 128 → mark_at (marks_of u p) k ≡ digit_at u p k
unfolding marks_of
digit_told u p k h = from_told 64 u p k (omega arith)

pub no_digits : marks_of 0 0 ≡ replicate 128 false
unfolding marks_of
no_digits = refl

primed_at : (u p k : ℕ) → k % 2 ≡ 1 → digit_at u p k ≡ nat_eq (bit_at p (k / 2)) 1
primed_at u p k e = ap (λ b. nat_eq (bit_at (cond (nat_eq b 1) p u) (k / 2)) 1) e

unprimed_at : (u p k : ℕ) → k % 2 ≡ 0 → digit_at u p k ≡ nat_eq (bit_at u (k / 2)) 1
unprimed_at u p k e = ap (λ b. nat_eq (bit_at (cond (nat_eq b 1) p u) (k / 2)) 1) e

unprimed_of : (u p c : ℕ) → c < 64 → mark_at (marks_of u p) (2 * c) ≡ nat_eq (bit_at u c) 1
unprimed_of u p c h =
    let e : 2 * c / 2 ≡ c = omega arith in
    digit_told u p (2 * c) (omega arith) ∙ unprimed_at u p (2 * c) (omega arith) ∙ ap (λ x. nat_eq (bit_at u x) 1) e

primed_of : (u p c : ℕ) → c < 64 → mark_at (marks_of u p) (2 * c + 1) ≡ nat_eq (bit_at p c) 1
primed_of u p c h =
    let e : (2 * c + 1) / 2 ≡ c = omega arith in
    digit_told u p (2 * c + 1) (omega arith) ∙ primed_at u p (2 * c + 1) (omega arith) ∙ ap (λ x. nat_eq (bit_at p x) 1) e

-- ---- one of them
pub has_primed : (u p k : ℕ) → k < 128 → k % 2 ≡ 1 → nat_eq (bit_and (p / 2 ^ (k / 2)) 1) 1 ≡ mark_at (marks_of u p) k
has_primed u p k h e = ap (λ x. nat_eq x 1) (shr_and_one p (k / 2)) ∙ sym (digit_told u p k h ∙ primed_at u p k e)

pub has_unprimed : (u p k : ℕ) → k < 128 → k % 2 ≡ 0 → nat_eq (bit_and (u / 2 ^ (k / 2)) 1) 1 ≡ mark_at (marks_of u p) k
has_unprimed u p k h e = ap (λ x. nat_eq x 1) (shr_and_one u (k / 2)) ∙ sym (digit_told u p k h ∙ unprimed_at u p k e)

-- marks that are told by digits
told_by : (m : List Bool) (u p : ℕ) → length m ≡ 128 → ((j : ℕ) → j < 128 → mark_at m j ≡ digit_at u p j) → marks_of u p ≡ m
told_by m u p l h =
    fill_by_all (digit_at u p) (marks_of u p) 128 false (marks_length u p) (digit_told u p)
    ∙ sym (fill_by_all (digit_at u p) m 128 false l h)

set_by : (u p v q k : ℕ) → k < 128 → digit_at v q k ≡ true → ((j : ℕ) → j ≢ k → digit_at v q j ≡ digit_at u p j) →
    marks_of v q ≡ set (marks_of u p) k true
set_by u p v q k h t o =
    told_by (set (marks_of u p) k true) v q (length-set (marks_of u p) k true ∙ marks_length u p)
    (λ j l. by j l (cases_eq j k))
  where
    by : (j : ℕ) → j < 128 → (j ≡ k) ⊎ (j ≢ k) → mark_at (set (marks_of u p) k true) j ≡ digit_at v q j
    by j l (inl e) =
        ap (mark_at (set (marks_of u p) k true)) e
        ∙ get_or-set_same (marks_of u p) k true false (rw marks_length h) ∙ sym t ∙ ap (digit_at v q) (sym e)
    by j l (inr e) = get_or-set_other (marks_of u p) k j true false e ∙ digit_told u p j l ∙ sym (o j e)

parity : (k : ℕ) → (k % 2 ≡ 0) ⊎ (k % 2 ≡ 1)
parity k = by (cases_lt (k % 2) 1)
  where
    by : (k % 2 < 1) ⊎ (1 ≤ k % 2) → (k % 2 ≡ 0) ⊎ (k % 2 ≡ 1)
    by (inl l) = inl (omega arith)
    by (inr l) = inr (omega arith)

pub more_primed : (u p k : ℕ) → k < 128 → k % 2 ≡ 1 → marks_of u (bit_or p (1 * 2 ^ (k / 2) % 2 ^ 64)) ≡ set (marks_of u p) k true
more_primed u p k h e = set_by u p u q k h (primed_at u q k e ∙ ap (λ x. nat_eq x 1) (bit_at_set_same w64 p (k / 2) half)) (λ j d. other j d (parity j))
  where
    q : ℕ
    q = bit_or p (1 * 2 ^ (k / 2) % 2 ^ 64)

    half : k / 2 < 64
    half = omega arith

    other : (j : ℕ) → j ≢ k → (j % 2 ≡ 0) ⊎ (j % 2 ≡ 1) → digit_at u q j ≡ digit_at u p j
    other j d (inl f) = unprimed_at u q j f ∙ sym (unprimed_at u p j f)
    other j d (inr f) =
        let n : j / 2 ≢ k / 2 = λ s. d (omega arith) in
        primed_at u q j f ∙ ap (λ x. nat_eq x 1) (bit_at_set_other w64 p (k / 2) half (j / 2) n) ∙ sym (primed_at u p j f)

pub more_unprimed : (u p k : ℕ) → k < 128 → k % 2 ≡ 0 → marks_of (bit_or u (1 * 2 ^ (k / 2) % 2 ^ 64)) p ≡ set (marks_of u p) k true
more_unprimed u p k h e = set_by u p v p k h (unprimed_at v p k e ∙ ap (λ x. nat_eq x 1) (bit_at_set_same w64 u (k / 2) half)) (λ j d. other j d (parity j))
  where
    v : ℕ
    v = bit_or u (1 * 2 ^ (k / 2) % 2 ^ 64)

    half : k / 2 < 64
    half = omega arith

    other : (j : ℕ) → j ≢ k → (j % 2 ≡ 0) ⊎ (j % 2 ≡ 1) → digit_at v p j ≡ digit_at u p j
    other j d (inr f) = primed_at v p j f ∙ sym (primed_at u p j f)
    other j d (inl f) =
        let n : j / 2 ≢ k / 2 = λ s. d (omega arith) in
        unprimed_at v p j f ∙ ap (λ x. nat_eq x 1) (bit_at_set_other w64 u (k / 2) half (j / 2) n) ∙ sym (unprimed_at u p j f)

-- ---- how many
count_from : (n u p : ℕ) → u < 2 ^ n → p < 2 ^ n → count_ones u + count_ones p + unmarked (marks_from n u p) ≡ 2 * n
count_from zero u p h l =
    let z : count_ones 0 ≡ 0 = omega (arith, one_digit 0 0 (omega arith)) in
    let e : u ≡ 0 = omega arith in
    let f : p ≡ 0 = omega arith in
    ap (λ x. count_ones x + count_ones p + 0) e ∙ ap (λ x. count_ones 0 + count_ones x + 0) f ∙ ap (λ x. x + x + 0) z
count_from (suc n) u p h l =
    let e : 2 ^ suc n ≡ 2 * 2 ^ n = pow-succ' 2 n in
    let r : count_ones (u / 2) + count_ones (p / 2) + unmarked (marks_from n (u / 2) (p / 2)) ≡ 2 * n =
    count_from n (u / 2) (p / 2) (omega (arith, e)) (omega (arith, e)) in
    let a = one_digit (p % 2) (unmarked (marks_from n (u / 2) (p / 2))) (omega arith) in
    let b = one_digit (u % 2) (cond (nat_eq (p % 2) 1) (unmarked (marks_from n (u / 2) (p / 2))) (1 + unmarked (marks_from n (u / 2) (p / 2)))) (omega arith) in
    let c = ones_next u in
    let d = ones_next p in
    omega (arith, r, a, b, c, d)

pub count_told : (u p : ℕ) → u < 2 ^ 64 → p < 2 ^ 64 → count_ones u + count_ones p + unmarked (marks_of u p) ≡ 128
unfolding marks_of
count_told u p h l = count_from 64 u p h l

-- ---- each mark is among others
module _ (u p v q : ℕ) (hu : u < 2 ^ 64) (hv : v < 2 ^ 64) where
  outside_unprimed : AreWithin (marks_of u p) (marks_of v q) → bit_and u (bit_not w64 v) ≡ 0
  outside_unprimed w = digits_outside u v hu hv (λ i h o.
      let t : mark_at (marks_of u p) (2 * i) ≡ true = unprimed_of u p i h ∙ ap (λ x. nat_eq x 1) o in
      eqb-true _ _ (sym (unprimed_of v q i h) ∙ w (2 * i) (omega arith) t))

  pub not_within : (m n : List Bool) → marks_of u p ≡ m → marks_of v q ≡ n → bit_and u (bit_not w64 v) ≢ 0 → IsTrue (nat_eq (bit_and u (bit_not w64 v)) 0) ↔ AreWithin m n
  not_within m n em en a = (
    λ b. absurd (a (eqb-true _ _ b)),
    λ w. absurd (a (outside_unprimed (subst (AreWithin (marks_of u p)) (sym en) (subst (λ x. AreWithin x n) (sym em) w)))),
  )

module _ (u p v q : ℕ) (hu : u < 2 ^ 64) (hp : p < 2 ^ 64) (hv : v < 2 ^ 64) (hq : q < 2 ^ 64) where
  within_told : bit_and u (bit_not w64 v) ≡ 0 → bit_and p (bit_not w64 q) ≡ 0 → AreWithin (marks_of u p) (marks_of v q)
  within_told a b k h t = digit_told v q k h ∙ by (parity k)
    where
      half : k / 2 < 64
      half = omega (arith, h)

      d : digit_at u p k ≡ true
      d = sym (digit_told u p k h) ∙ t

      by : (k % 2 ≡ 0) ⊎ (k % 2 ≡ 1) → digit_at v q k ≡ true
      by (inl e) = unprimed_at v q k e ∙ ap (λ x. nat_eq x 1) (digits_within u v hu hv a (k / 2) half (eqb-true _ _ (sym (unprimed_at u p k e) ∙ d)))
      by (inr e) = primed_at v q k e ∙ ap (λ x. nat_eq x 1) (digits_within p q hp hq b (k / 2) half (eqb-true _ _ (sym (primed_at u p k e) ∙ d)))

  outside_primed : AreWithin (marks_of u p) (marks_of v q) → bit_and p (bit_not w64 q) ≡ 0
  outside_primed w = digits_outside p q hp hq (λ i h o.
      let t : mark_at (marks_of u p) (2 * i + 1) ≡ true = primed_of u p i h ∙ ap (λ x. nat_eq x 1) o in
      eqb-true _ _ (sym (primed_of v q i h) ∙ w (2 * i + 1) (omega arith) t))

  module _ (m n : List Bool) (em : marks_of u p ≡ m) (en : marks_of v q ≡ n) where
    pub both_within : bit_and u (bit_not w64 v) ≡ 0 → IsTrue (nat_eq (bit_and p (bit_not w64 q)) 0) ↔ AreWithin m n
    both_within a = (
      λ b. subst (λ x. AreWithin x n) em (subst (AreWithin (marks_of u p)) en (within_told a (eqb-true _ _ b))),
      λ w. ap (λ x. nat_eq x 0) (outside_primed (subst (AreWithin (marks_of u p)) (sym en) (subst (λ x. AreWithin x n) (sym em) w))),
    )

-- ---- the matrices
pub either_told : (u p c : ℕ) → c < 64 → (bit_at (bit_or u p) c ≡ 1) ↔ ((mark_at (marks_of u p) (2 * c) ≡ true) ⊎ (mark_at (marks_of u p) (2 * c + 1) ≡ true))
either_told u p c h = (λ e. forth e (cases_eq (bit_at u c) 1), back)
  where
    forth : bit_at (bit_or u p) c ≡ 1 → (bit_at u c ≡ 1) ⊎ (bit_at u c ≢ 1) → (mark_at (marks_of u p) (2 * c) ≡ true) ⊎ (mark_at (marks_of u p) (2 * c + 1) ≡ true)
    forth e (inl a) = inl (unprimed_of u p c h ∙ ap (λ x. nat_eq x 1) a)
    forth e (inr a) =
        let m = bit_at_or u p c in
        let b = bit_at-lt u c in
        let d : bit_at p c ≡ 1 = omega (arith, m, a, b, e) in
        inr (primed_of u p c h ∙ ap (λ x. nat_eq x 1) d)

    back : (mark_at (marks_of u p) (2 * c) ≡ true) ⊎ (mark_at (marks_of u p) (2 * c + 1) ≡ true) → bit_at (bit_or u p) c ≡ 1
    back (inl t) =
        let m = bit_at_or u p c in
        let b = bit_at-lt p c in
        let a : bit_at u c ≡ 1 = eqb-true _ _ (sym (unprimed_of u p c h) ∙ t) in
        omega (arith, m, a, b)
    back (inr t) =
        let m = bit_at_or u p c in
        let b = bit_at-lt u c in
        let a : bit_at p c ≡ 1 = eqb-true _ _ (sym (primed_of u p c h) ∙ t) in
        omega (arith, m, a, b)

-- ---- matrices that aren't marked
gap_told : (m : List Bool) (a k : ℕ) → ((c : ℕ) → a ≤ c → c < a + k → ¬ ((mark_at m (2 * c) ≡ true) ⊎ (mark_at m (2 * c + 1) ≡ true))) →
    marked_below (2 * (a + k)) m ≡ marked_below (2 * a) m
gap_told m a zero d =
    let e : 2 * (a + 0) ≡ 2 * a = omega arith in
    ap (λ n. marked_below n m) e
gap_told m a (suc k) d =
    let e : 2 * (a + suc k) ≡ 2 * (a + k + 1) = omega arith in
    ap (λ n. marked_below n m) e ∙ marked_past_both (a + k) m (d (a + k) (omega arith) (omega arith))
    ∙ gap_told m a k (λ c f h. d c f (omega arith))

-- no operation is marked whose matrix has a digit 0
pub gap_skipped : (r : ℕ) (m : List Bool) (a b : ℕ) →
    ((c : ℕ) → c < 64 → (bit_at r c ≡ 1) ↔ ((mark_at m (2 * c) ≡ true) ⊎ (mark_at m (2 * c + 1) ≡ true))) →
    a ≤ b → b ≤ 64 → ((c : ℕ) → a ≤ c → c < b → bit_at r c ≡ 0) → marked_below (2 * b) m ≡ marked_below (2 * a) m
gap_skipped r m a b told h l d =
    let e : a + (b - a) ≡ b = omega arith in
    ap (λ n. marked_below (2 * n) m) (sym e) ∙ gap_told m a (b - a) (λ c f i t. none c f (omega arith) t)
  where
    none : (c : ℕ) → a ≤ c → c < b → ¬ ((mark_at m (2 * c) ≡ true) ⊎ (mark_at m (2 * c + 1) ≡ true))
    none c f i t = let one = (told c (omega arith)).1 t in let no = d c f i in absurd (omega (arith, one, no))
