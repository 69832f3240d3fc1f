-- Products of entries as numbers.
--   halved_is, turned_is, nothing_is, one_is    one more entry
--   one_number, zero_number, minus_one_number, minus_half_number, minus_root_number, with_minus
--       the numbers of entries
--   new_is_ok, signed-nothing, signed-root    fractions of small whole numbers
--   entry_value, axis-digit    the number of an entry; an axis by its digit
--   within-weaker    bounds
--   signed_factor    the sign before a product
use Rattle.list_laws.proofs.Kit.{◌≡◌, ℕ, ◌+◌, ◌-◌, ◌*◌, ◌<◌, ◌≤◌, ◌^◌, inl, inr, refl, ap, sym, ◌∙◌, subst, arith, Result, Ok, Err, dvd-mul_left}
use Rattle.list_laws.proofs.Kit.{le_of_mul-le-mul_right, mul-le-mul_left, unsigned_abs-mul, IsGcd-swap, le_of_dvd, IsOk}
use Rattle.std.specs.Prelude.{unsigned_abs}
use Prim.Native.Nat.{◌∣◌}
use lib.IntN.{ℤ, pos, negsuc, ◌*ℤ◌}
use Rattle.tensor_defs.specs.Prelude.{Number, Fraction, number_of, same_numbers, add, mul, mul_at, neg, whole, half_of, over, root_3, num_zero, num_one}
use Rattle.tensor_defs.specs.Prelude.{limit, ReachesLimit, Axis, x1, x2, x3, Operation, entry, value, digit}
use Rattle.tensor_defs.specs.declared.Sign.{Sign}
use Rattle.tensor_defs.specs.declared.Sign.TheVariants.{Plus, Minus}
use Rattle.number_laws.proofs.Gauss.{gauss}
use Rattle.number_laws.proofs.NumberLaws.{num_mul_assoc, num_mul_left_comm, num_one-mul, num_mul-zero}
use Rattle.exact_frac.specs.Exact.{IsNew}
use Rattle.exact_frac.specs.declared.frac.FracFault.{FracFault}
use Rattle.exact_frac.specs.declared.frac.FracFault.TheVariants as fault
use Rattle.exact_frac.proofs.Overs.{over-zero, same_over}
use Rattle.root3_num.proofs.RootParts.{both-at, neg-parts}
use Rattle.op_matrix.specs.View.{entry_of, axis}
use Rattle.op_matrix.specs.declared.entry.Entry as code
use Rattle.op_matrix.specs.declared.entry.Entry.TheVariants.{One, Zero, MinusHalf, MinusHalfRoot3, MinusOne}
use Rattle.sign_moves.specs.Signs.{signed}
use Rattle.tensor_action.specs.declared.products.Product.{Product}
use Rattle.tensor_action.specs.Factors.{IsWithin, entry_number, size_of}

-- ---- one more entry
as_triple : (p q n : ℕ) (h : 0 < n) → size_of p q n ≡ number_of (record { p = pos p; q = pos q; n = n; positive = h })
as_triple p q n h =
    both-at (pos p) (pos q) n n h h
    ∙ same_numbers _ (record { p = pos p; q = pos q; n = n; positive = h })
    (record { same_p = ap pos (law p n); same_q = ap pos (law q n) })
  where
    law : (p n : ℕ) → (p * n) * n ≡ p * (n * n)
    law p n = omega arith

step : (p q n p' q' n' : ℕ) (a b : ℕ) → 0 < n → 0 < n' → p' * (n * 2) ≡ (p * a + 3 * (q * b)) * n' →
    q' * (n * 2) ≡ (p * b + q * a) * n' → size_of p' q' n' ≡ mul (size_of p q n) (half_of (pos a) (pos b))
unfolding half_of
step p q n p' q' n' a b h h' e f =
    as_triple p' q' n' h' ∙ same_numbers _ _ (record { same_p = ap pos e; same_q = ap pos f }) ∙ sym (mul_at _ _)
    ∙ ap (λ x. mul x (half_of (pos a) (pos b))) (sym (as_triple p q n h))

signed-mul : (s : Sign) (x y : Number) → signed s (mul x y) ≡ mul (signed s x) y
signed-mul Plus x y = refl
signed-mul Minus x y = sym (num_mul_assoc _ x y)

pub halved_is : (s : Sign) (p q n : ℕ) → 0 < n →
    signed s (size_of p q (2 * n)) ≡ mul (signed s (size_of p q n)) (half_of (pos 1) (pos 0))
halved_is s p q n h =
    ap (signed s) (step p q n p q (2 * n) 1 0 h (omega arith) (omega arith) (omega arith))
    ∙ signed-mul s (size_of p q n) (half_of (pos 1) (pos 0))

pub turned_is : (s : Sign) (p q n : ℕ) → 0 < n →
    signed s (size_of (3 * q) p (2 * n)) ≡ mul (signed s (size_of p q n)) (half_of (pos 0) (pos 1))
turned_is s p q n h =
    ap (signed s) (step p q n (3 * q) p (2 * n) 0 1 h (omega arith) (omega arith) (omega arith))
    ∙ signed-mul s (size_of p q n) (half_of (pos 0) (pos 1))

pub nothing_is : size_of 0 0 1 ≡ num_zero
unfolding whole
nothing_is = as_triple 0 0 1 (omega arith) ∙ same_numbers _ _ (record { same_p = refl; same_q = refl })

pub one_is : size_of 1 0 1 ≡ num_one
unfolding whole
one_is = as_triple 1 0 1 (omega arith) ∙ same_numbers _ _ (record { same_p = refl; same_q = refl })

-- ---- the numbers of entries
pub one_number : entry_number One ≡ num_one
unfolding half_of whole
one_number = same_numbers _ _ (record { same_p = refl; same_q = refl })

pub zero_number : entry_number Zero ≡ num_zero
unfolding half_of whole
zero_number = same_numbers _ _ (record { same_p = refl; same_q = refl })

pub minus_one_number : entry_number MinusOne ≡ neg num_one
unfolding half_of whole mul
minus_one_number = same_numbers _ _ (record { same_p = refl; same_q = refl })

pub minus_half_number : entry_number MinusHalf ≡ neg (half_of (pos 1) (pos 0))
unfolding half_of whole mul
minus_half_number = same_numbers _ _ (record { same_p = refl; same_q = refl })

pub minus_root_number : entry_number MinusHalfRoot3 ≡ neg (half_of (pos 0) (pos 1))
unfolding half_of whole mul
minus_root_number = same_numbers _ _ (record { same_p = refl; same_q = refl })

-- a product with the other sign, by a factor with the other sign
pub with_minus : (x y n e m : Number) → n ≡ neg y → y ≡ mul x e → m ≡ neg e → n ≡ mul x m
with_minus x y n e m p q r = p ∙ ap neg q ∙ num_mul_left_comm _ x e ∙ ap (mul x) (sym r)

-- ---- fractions of small whole numbers
pub small-calm : (p : ℤ) (d : ℕ) → 0 < d → unsigned_abs p < limit → d < limit → ReachesLimit (over p d) → ⊥
small-calm p d h small below r =
    let f = r.parts in
    let t = r.is_parts.terms in
    let e : p *ℤ pos f.den ≡ f.num *ℤ pos d = same_over p f.num d f.den h t.positive r.is_parts.same in
    let s : unsigned_abs p * f.den ≡ unsigned_abs f.num * d = sym (unsigned_abs-mul p (pos f.den)) ∙ ap unsigned_abs e
    ∙ unsigned_abs-mul f.num (pos d) in
    let divides : f.den ∣ d = gauss f.den (unsigned_abs f.num) d (IsGcd-swap (unsigned_abs f.num) f.den 1 t.lowest)
    (subst (λ x. f.den ∣ x) s (dvd-mul_left f.den (unsigned_abs p))) in
    let den : f.den ≤ d = le_of_dvd h divides in
    let more : unsigned_abs f.num * f.den ≤ unsigned_abs f.num * d = mul-le-mul_left (unsigned_abs f.num) den in
    let num : unsigned_abs f.num ≤ unsigned_abs p = le_of_mul-le-mul_right (subst (λ x. unsigned_abs f.num * f.den ≤ x) (sym s) more) t.positive in
    elim r.large as (λ _. ⊥) [ inl l ↦ omega (arith, l) | inr l ↦ omega (arith, l) ]

pub new_is_ok : (top below : ℕ) (r : Result Fraction FracFault) → 0 < below → top < 2 ^ 32 → below < 2 ^ 32 →
    IsNew (pos top) (pos below) r → IsOk r
new_is_ok top below (Ok f) h t b n = refl
new_is_ok top below (Err fault.ZeroDenominator) h t b n = absurd (let z : below ≡ 0 = ap unsigned_abs n in omega arith)
new_is_ok top below (Err fault.TooLarge) h t b n =
    absurd (small-calm (pos top) below h (omega arith) (omega arith) n.1)

pub signed-nothing : (s : Sign) (d : ℕ) → signed s (over (pos 0) d) ≡ num_zero
signed-nothing Plus d = over-zero d
signed-nothing Minus d = ap neg (over-zero d) ∙ num_mul-zero (whole (negsuc 0))

-- a sign before both parts
pub signed-root : (s : Sign) (x y : Number) → add (signed s x) (mul (signed s y) root_3) ≡ signed s (add x (mul y root_3))
signed-root Plus x y = refl
signed-root Minus x y = sym (neg-parts x y (whole (negsuc 0)) root_3)

-- ---- entries, and digits of axes
pub entry_value : (g : Operation) (e : code.Entry) (i j : Axis) → entry_of e ≡ entry g i j → entry_number e ≡ value g i j
unfolding value
entry_value g e i j at = λ n. half_of (at n).rational (at n).root

pub axis-digit : (i : Axis) → axis (digit i - 1) ≡ i
axis-digit x1 = refl
axis-digit x2 = refl
axis-digit x3 = refl

-- ---- bounds
pub within-weaker : (a b : ℕ) (p : Product) → a ≤ b → IsWithin a p → IsWithin b p
within-weaker a b p h w =
    let r = w.rational in
    let q = w.root in
    let n = w.below in
    record { rational = omega (arith, r); root = omega (arith, q); below = omega (arith, n); positive = w.positive }

-- ---- the sign before a product
pub signed_factor : (s : Sign) (x y w : Number) → w ≡ signed s num_one → y ≡ x → signed s y ≡ mul w x
signed_factor s x y w e f = ap (signed s) (f ∙ sym (num_one-mul x)) ∙ signed-mul s num_one x ∙ ap (λ u. mul u x) (sym e)
