-- Determinants, inverses, entries and the order, by computing.
--   negative_code, det_at    the determinant
--   inverse_code, inverse_below, inverse_at    inverses
--   entry_told    entries
--   bit, before_at, half_below, before_places, place_of_nth, nth_at ..    the order
use Rattle.list_laws.proofs.Kit.{[], ◌≡◌, ◌≢◌, ℕ, ◌+◌, ◌*◌, ◌/◌, ◌%◌, ◌<◌, Bool, true, false, refl, ap, sym, ◌∙◌, arith, subst, lit<, cond, slice_index_or}
use Rattle.list_laws.proofs.Kit.{nat_tests}
use Rattle.std.specs.Prelude.{nat_eq, nat_lt, slice_index}
use mathlib.Core.Bool.{xor}
use lib.IntN.{ℤ, pos, negsuc, ◌*ℤ◌}
use Rattle.list_laws.proofs.Prelude.{all_below, below_told, below_told_2, same_bool, same_bool_true, xor_self, both}
use Rattle.tensor_defs.specs.Prelude.{Triple, add_triple, mul_triple, number_of, same_numbers, add, mul, whole, half_of, Axis, x1, x2, x3, Operation, entry}
use Rattle.tensor_defs.specs.Prelude.{value, determinant, IsProduct, identity, same_int, same_entry, comes_before}
use Rattle.tensor_laws.proofs.Products.{product_test, product_tested, same_int_true}
use Rattle.op_matrix.specs.Prelude.{operation_at, nth_operation, place, place_at, primed_at, entry_of, axis}
use Rattle.op_matrix.specs.declared.tables.TheConstants.{ENTRIES, INVERSES, NEGATIVE}
use Rattle.op_matrix.specs.declared.entry.Entry as code
use Rattle.op_matrix.specs.declared.entry.Entry.TheVariants.{One}
use Rattle.op_matrix.proofs.Marks.{product_marked}
use Rattle.op_matrix.proofs.Frames.{same_entry_true, also}

-- ---- the determinant
abbrev triple_at : Operation → Axis → Axis → Triple
triple_at g i j = record { p = (entry g i j).rational; q = (entry g i j).root; n = 2; positive = lit< tt }

abbrev whole_triple : ℤ → Triple
whole_triple a = record { p = a; q = pos 0; n = 1; positive = lit< tt }

abbrev minus : Triple → Triple
minus a = mul_triple (whole_triple (negsuc 0)) a

abbrev triple_determinant : (Axis → Axis → Triple) → Triple
triple_determinant a =
    add_triple (mul_triple (a x1 x1) (add_triple (mul_triple (a x2 x2) (a x3 x3))
    (minus (mul_triple (a x2 x3) (a x3 x2)))))
    (add_triple (mul_triple (a x1 x2) (add_triple (mul_triple (a x2 x3) (a x3 x1))
    (minus (mul_triple (a x2 x1) (a x3 x3)))))
    (mul_triple (a x1 x3) (add_triple (mul_triple (a x2 x1) (a x3 x2)) (minus (mul_triple (a x2 x2) (a x3 x1))))))

by_triples : (g : Operation) → determinant (value g) ≡ number_of (triple_determinant (triple_at g))
unfolding value add mul half_of whole
by_triples g = refl

abbrev same_test : Triple → Triple → Bool
same_test a b = also (same_int (a.p *ℤ pos b.n) (b.p *ℤ pos a.n)) (same_int (a.q *ℤ pos b.n) (b.q *ℤ pos a.n))

same_tested : (a b : Triple) → same_test a b ≡ true → number_of a ≡ number_of b
same_tested a b e = let p : (_ ≡ true) × (_ ≡ true) = both (same_int (a.p *ℤ pos b.n) (b.p *ℤ pos a.n))
    (same_int (a.q *ℤ pos b.n) (b.q *ℤ pos a.n)) e in same_numbers a b
    (record { same_p = same_int_true _ _ p.0; same_q = same_int_true _ _ p.1 })

abbrev sign_of : Bool → ℤ
sign_of true = negsuc 0
sign_of false = pos 1

unfoldable pub negative_code : ℕ → Bool
negative_code n = slice_index_or NEGATIVE n false

abbrev det_right : ℕ → Bool
det_right n = same_test (triple_determinant (triple_at (operation_at n false)))
    (whole_triple (sign_of (negative_code n)))

det_all : all_below 64 det_right ≡ true
unfolding operation_at negative_code
det_all = refl

det_told : (n : ℕ) (p : Bool) → n < 64 → determinant (value (operation_at n p)) ≡ whole (sign_of (negative_code n))
unfolding operation_at whole
det_told n p h = by_triples (operation_at n p) ∙ same_tested (triple_determinant (triple_at (operation_at n false)))
    (whole_triple (sign_of (negative_code n))) (below_told 64 det_right det_all n h)

pub det_at : (n : ℕ) (p b : Bool) (g : Operation) (a : ℤ) → n < 64 → operation_at n p ≡ g → negative_code n ≡ b →
    a ≡ sign_of b → determinant (value g) ≡ whole a
det_at n p b g a h e f s = subst (λ x. determinant (value x) ≡ whole a) e
    (det_told n p h ∙ ap (λ x. whole (sign_of x)) f ∙ ap whole (sym s))

-- ---- inverses
unfoldable pub inverse_code : ℕ → ℕ
inverse_code n = slice_index INVERSES n

abbrev inverse_right : ℕ → Bool
inverse_right n = also (nat_lt (inverse_code n) 64) (also (product_test (operation_at n false)
    (operation_at (inverse_code n) false) (operation_at 0 false))
    (product_test (operation_at (inverse_code n) false) (operation_at n false) (operation_at 0 false)))

inverse_all : all_below 64 inverse_right ≡ true
unfolding operation_at inverse_code xor
inverse_all = refl

abbrev Inverts : ℕ → Type 0
Inverts n = (nat_lt (inverse_code n) 64 ≡ true) × (also (product_test (operation_at n false)
    (operation_at (inverse_code n) false) (operation_at 0 false))
    (product_test (operation_at (inverse_code n) false) (operation_at n false) (operation_at 0 false)) ≡ true)

inverts : (n : ℕ) → n < 64 → Inverts n
inverts n h = both (nat_lt (inverse_code n) 64) _ (below_told 64 inverse_right inverse_all n h)

pub inverse_below : (n : ℕ) → n < 64 → inverse_code n < 64
inverse_below n h = means (inverse_code n) (inverts n h).0
  where
    means : (a : ℕ) → nat_lt a 64 ≡ true → a < 64
    means a e = grind (arith, nat_tests)

identity_at : operation_at 0 false ≡ identity
unfolding operation_at
identity_at = refl

pub inverse_at : (n k : ℕ) (p : Bool) (g : Operation) → n < 64 → k ≡ inverse_code n → operation_at n p ≡ g →
    IsProduct g (operation_at k p) identity × IsProduct (operation_at k p) g identity
inverse_at n k p g h e f =
    let t : (_ ≡ true) × (_ ≡ true) = both (product_test (operation_at n false) (operation_at (inverse_code n) false)
    (operation_at 0 false)) (product_test (operation_at (inverse_code n) false) (operation_at n false)
    (operation_at 0 false)) (inverts n h).1 in
    let r : IsProduct (operation_at n p) (operation_at (inverse_code n) p) (operation_at 0 false) =
    product_marked n (inverse_code n) 0 p p false (product_tested _ _ _ t.0) (xor_self p) in
    let l : IsProduct (operation_at (inverse_code n) p) (operation_at n p) (operation_at 0 false) =
    product_marked (inverse_code n) n 0 p p false (product_tested _ _ _ t.1) (xor_self p) in (
      subst (λ x. IsProduct x (operation_at k p) identity) f (subst
          (λ x. IsProduct (operation_at n p) (operation_at x p) identity) (sym e)
          (subst (IsProduct (operation_at n p) (operation_at (inverse_code n) p)) identity_at r)),
      subst (λ x. IsProduct (operation_at k p) x identity) f (subst
          (λ x. IsProduct (operation_at x p) (operation_at n p) identity) (sym e)
          (subst (IsProduct (operation_at (inverse_code n) p) (operation_at n p)) identity_at l)),
    )

-- ---- entries
abbrev entry_right : ℕ → ℕ → ℕ → Bool
entry_right n i j = same_entry (entry_of (slice_index_or (slice_index_or ENTRIES n []) (3 * i + j) One))
    (entry (operation_at n false) (axis i) (axis j))

entry_all : all_below 64 (λ n. all_below 3 (λ i. all_below 3 (entry_right n i))) ≡ true
unfolding operation_at
entry_all = refl

marks_apart : (n : ℕ) (p q : Bool) (i j : Axis) → entry (operation_at n p) i j ≡ entry (operation_at n q) i j
unfolding operation_at
marks_apart n p q x1 j = refl
marks_apart n p q x2 j = refl
marks_apart n p q x3 j = refl

pub entry_told : (n i j : ℕ) (p : Bool) (g : Operation) (e : code.Entry) → n < 64 → i < 3 → j < 3 →
    operation_at n p ≡ g → e ≡ slice_index_or (slice_index_or ENTRIES n []) (3 * i + j) One →
    entry_of e ≡ entry g (axis i) (axis j)
entry_told n i j p g e a b c f q =
    ap entry_of q ∙ same_entry_true _ _ (below_told_2 3 3 (entry_right n)
    (below_told 64 (λ n. all_below 3 (λ i. all_below 3 (entry_right n i))) entry_all n a) i j b c) ∙
    marks_apart n false p (axis i) (axis j) ∙ ap (λ x. entry x (axis i) (axis j)) f

-- ---- the order
abbrev pub bit : Bool → ℕ
bit p = cond p 1 0

abbrev order_right : Bool → Bool → ℕ → ℕ → Bool
order_right p q n m = same_bool (comes_before (operation_at n p) (operation_at m q))
    (nat_lt (2 * n + bit p) (2 * m + bit q))

abbrev order_test : Bool → Bool → Bool
order_test p q = all_below 64 (λ n. all_below 64 (order_right p q n))

order_all : (p q : Bool) → order_test p q ≡ true
unfolding operation_at comes_before
order_all true true = refl
order_all true false = refl
order_all false true = refl
order_all false false = refl

pub before_at : (n m : ℕ) (p q : Bool) → n < 64 → m < 64 → comes_before (operation_at n p) (operation_at m q) ≡ nat_lt
    (2 * n + bit p) (2 * m + bit q)
before_at n m p q h k = same_bool_true _ _ (below_told_2 64 64 (order_right p q) (order_all p q) n m h k)

pub half_below : (k : ℕ) → k < 128 → k / 2 < 64
half_below k h = omega arith

put_together : (k : ℕ) (b : Bool) → nat_eq (k % 2) 1 ≡ b → 2 * (k / 2) + bit b ≡ k
put_together k true e = let f : k % 2 ≡ 1 = grind (arith, nat_tests) in omega arith
put_together k false e = let f : k % 2 ≢ 1 = grind (arith, nat_tests) in omega arith

-- the order of operations is the order of their places
pub before_places : (a b : ℕ) → a < 128 → b < 128 → comes_before (nth_operation a) (nth_operation b) ≡ nat_lt a b
unfolding nth_operation
before_places a b h k = before_at (a / 2) (b / 2) (nat_eq (a % 2) 1) (nat_eq (b % 2) 1) (half_below a h)
    (half_below b k) ∙ (λ i. nat_lt (put_together a (nat_eq (a % 2) 1) refl i)
    (put_together b (nat_eq (b % 2) 1) refl i))

pub place_of_nth : (a : ℕ) → a < 128 → place (nth_operation a) ≡ a
unfolding nth_operation
place_of_nth a h = (λ i. 2 * place_at (a / 2) (nat_eq (a % 2) 1) (half_below a h) i + cond
    (primed_at (a / 2) (nat_eq (a % 2) 1) i) 1 0) ∙ put_together a (nat_eq (a % 2) 1) refl

twice_half : (n : ℕ) (p : Bool) → (2 * n + bit p) / 2 ≡ n
twice_half n true = omega arith
twice_half n false = omega arith

odd_bit : (n : ℕ) (p : Bool) → nat_eq ((2 * n + bit p) % 2) 1 ≡ p
odd_bit n true = let e : (2 * n + 1) % 2 ≡ 1 = omega arith in rw e refl
odd_bit n false = let e : (2 * n + 0) % 2 ≡ 0 = omega arith in rw e refl

pub nth_at : (n : ℕ) (p : Bool) → nth_operation (2 * n + bit p) ≡ operation_at n p
unfolding nth_operation
nth_at n p = λ i. operation_at (twice_half n p i) (odd_bit n p i)

pub place_below : (n : ℕ) (p : Bool) → n < 64 → 2 * n + bit p < 128
place_below n true h = omega arith
place_below n false h = omega arith

pub the_place : (n : ℕ) (p : Bool) → n < 64 → 2 * n + bit p ≡ place (operation_at n p)
the_place n p h = sym (place_of_nth (2 * n + bit p) (place_below n p h)) ∙ ap place (nth_at n p)
