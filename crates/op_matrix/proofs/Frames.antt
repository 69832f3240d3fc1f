-- Plain, diagonal and hexagonal, by computing.
--   same_entry_refl, same_entry_of, same_entry_true    the test of sameness
--   either, also, three, three_told    tests of entries
--   plain_test, plain_of, plain_told    plain
--   diagonal_test, x1_x2, x1_x3, x2_x3, diagonal_of, diagonal_told    diagonal
use Rattle.list_laws.proofs.Kit.{◌≡◌, ◌≢◌, Bool, true, false, refl, ap, sym, subst, cond, ◌⊎◌, inl, inr, true≢false}
use Rattle.std.proofs.lemmas.Bool.{eq-eqb}
use Rattle.list_laws.proofs.Tests.{either_left, either_right, either_told, both_of, both}
use Rattle.tensor_laws.proofs.Products.{same_int_true}
use lib.IntN.{ℤ, pos, negsuc}
use Rattle.tensor_defs.specs.Prelude.{Axis, x1, x2, x3, Entry, Operation, entry, one, nought, minus_one, same_int, same_entry, IsUnit, OneUnit, IsPlain}
use Rattle.tensor_defs.specs.Prelude.{IsDiagonal}

-- ---- the test of sameness
same_int_refl : (a : ℤ) → same_int a a ≡ true
same_int_refl (pos a) = eq-eqb a a refl
same_int_refl (negsuc a) = eq-eqb a a refl

pub same_entry_refl : (a : Entry) → same_entry a a ≡ true
same_entry_refl a = rw (same_int_refl a.rational) (same_int_refl a.root)

pub same_entry_of : (a b : Entry) → a ≡ b → same_entry a b ≡ true
same_entry_of a b e = subst (λ x. same_entry a x ≡ true) e (same_entry_refl a)

pub same_entry_true : (a b : Entry) → same_entry a b ≡ true → a ≡ b
same_entry_true a b e =
    let p : (_ ≡ true) × (_ ≡ true) = both (same_int a.rational b.rational) (same_int a.root b.root) e in
    λ i. record { rational = same_int_true a.rational b.rational p.0 i; root = same_int_true a.root b.root p.1 i }

-- ---- tests of entries
abbrev pub either : Bool → Bool → Bool
either a b = cond a true b

abbrev pub also : Bool → Bool → Bool
also a b = cond a b false

abbrev unit_test : Entry → Bool
unit_test e = either (same_entry e one) (same_entry e minus_one)

unit_of : (e : Entry) → IsUnit e → unit_test e ≡ true
unit_of e (inl h) = either_left _ _ (same_entry_of e one h)
unit_of e (inr h) = either_right (same_entry e one) _ (same_entry_of e minus_one h)

unit_told : (e : Entry) → unit_test e ≡ true → IsUnit e
unit_told e h = elim (either_told (same_entry e one) (same_entry e minus_one) h)
    [ inl p ↦ inl (same_entry_true e one p) | inr p ↦ inr (same_entry_true e minus_one p) ]

abbrev zero_test : Entry → Bool
zero_test e = same_entry e nought

abbrev one_unit_test : Entry → Entry → Entry → Bool
one_unit_test a b c = either (also (unit_test a) (also (zero_test b) (zero_test c)))
    (either (also (zero_test a) (also (unit_test b) (zero_test c)))
    (also (zero_test a) (also (zero_test b) (unit_test c))))

pub three : (a b c : Bool) → a ≡ true → b ≡ true → c ≡ true → also a (also b c) ≡ true
three a b c p q r = both_of a (also b c) p (both_of b c q r)

pub three_told : (a b c : Bool) → also a (also b c) ≡ true → (a ≡ true) × (b ≡ true) × (c ≡ true)
three_told a b c e = let p : (a ≡ true) × (also b c ≡ true) = both a (also b c) e in let q : (b ≡ true) × (c ≡ true) =
    both b c p.1 in (p.0, q.0, q.1)

one_unit_of : (a b c : Entry) → OneUnit a b c → one_unit_test a b c ≡ true
one_unit_of a b c (inl h) = either_left _ _ (three _ _ _ (unit_of a h.0) (same_entry_of b nought h.1)
    (same_entry_of c nought h.2))
one_unit_of a b c (inr (inl h)) = either_right (also (unit_test a) (also (zero_test b) (zero_test c))) _
    (either_left _ _ (three _ _ _ (same_entry_of a nought h.0) (unit_of b h.1) (same_entry_of c nought h.2)))
one_unit_of a b c (inr (inr h)) = either_right (also (unit_test a) (also (zero_test b) (zero_test c))) _
    (either_right (also (zero_test a) (also (unit_test b) (zero_test c))) _
    (three _ _ _ (same_entry_of a nought h.0) (same_entry_of b nought h.1) (unit_of c h.2)))

one_unit_told : (a b c : Entry) → one_unit_test a b c ≡ true → OneUnit a b c
one_unit_told a b c e = elim (either_told (also (unit_test a) (also (zero_test b) (zero_test c))) _ e) [
  | inl p ↦ (let t : (_ ≡ true) × (_ ≡ true) × (_ ≡ true) = three_told (unit_test a) (zero_test b) (zero_test c) p in
      inl (unit_told a t.0, same_entry_true b nought t.1, same_entry_true c nought t.2))
  | inr q ↦ elim (either_told (also (zero_test a) (also (unit_test b) (zero_test c))) _ q) [
    | inl p ↦ (let t : (_ ≡ true) × (_ ≡ true) × (_ ≡ true) = three_told (zero_test a) (unit_test b) (zero_test c) p in
        inr (inl (same_entry_true a nought t.0, unit_told b t.1, same_entry_true c nought t.2)))
    | inr p ↦ (let t : (_ ≡ true) × (_ ≡ true) × (_ ≡ true) = three_told (zero_test a) (zero_test b) (unit_test c) p in
        inr (inr (same_entry_true a nought t.0, same_entry_true b nought t.1, unit_told c t.2)))
  ]
]

abbrev each_axis : (Axis → Bool) → Bool
each_axis p = also (p x1) (also (p x2) (p x3))

each_axis_of : (p : Axis → Bool) → ((i : Axis) → p i ≡ true) → each_axis p ≡ true
each_axis_of p h = three (p x1) (p x2) (p x3) (h x1) (h x2) (h x3)

each_axis_told : (p : Axis → Bool) → each_axis p ≡ true → (i : Axis) → p i ≡ true
each_axis_told p e x1 = (three_told (p x1) (p x2) (p x3) e).0
each_axis_told p e x2 = (three_told (p x1) (p x2) (p x3) e).1
each_axis_told p e x3 = (three_told (p x1) (p x2) (p x3) e).2

-- ---- plain
abbrev row_unit : Operation → Axis → Bool
row_unit g i = one_unit_test (entry g i x1) (entry g i x2) (entry g i x3)

abbrev column_unit : Operation → Axis → Bool
column_unit g j = one_unit_test (entry g x1 j) (entry g x2 j) (entry g x3 j)

abbrev pub plain_test : Operation → Bool
plain_test g = also (each_axis (row_unit g)) (each_axis (column_unit g))

pub plain_of : (g : Operation) → IsPlain g → plain_test g ≡ true
plain_of g h = both_of (each_axis (row_unit g)) _ (each_axis_of (row_unit g)
    (λ i. one_unit_of (entry g i x1) (entry g i x2) (entry g i x3) (h.rows i)))
    (each_axis_of (column_unit g) (λ j. one_unit_of (entry g x1 j) (entry g x2 j) (entry g x3 j) (h.columns j)))

pub plain_told : (g : Operation) → plain_test g ≡ true → IsPlain g
plain_told g e =
    let p : (_ ≡ true) × (_ ≡ true) = both (each_axis (row_unit g)) (each_axis (column_unit g)) e in
    record {
      rows = λ i. one_unit_told (entry g i x1) (entry g i x2) (entry g i x3) (each_axis_told (row_unit g) p.0 i);
      columns = λ j. one_unit_told (entry g x1 j) (entry g x2 j) (entry g x3 j) (each_axis_told (column_unit g) p.1 j);
    }

-- ---- diagonal
abbrev pub diagonal_test : Operation → Bool
diagonal_test g = also (also (unit_test (entry g x1 x1)) (also (zero_test (entry g x1 x2)) (zero_test (entry g x1 x3))))
    (also (also (zero_test (entry g x2 x1)) (also (unit_test (entry g x2 x2)) (zero_test (entry g x2 x3))))
    (also (zero_test (entry g x3 x1)) (also (zero_test (entry g x3 x2)) (unit_test (entry g x3 x3)))))

abbrev is_x1 : Axis → Bool
is_x1 x1 = true
is_x1 x2 = false
is_x1 x3 = false

abbrev is_x2 : Axis → Bool
is_x2 x1 = false
is_x2 x2 = true
is_x2 x3 = false

pub x1_x2 : x1 ≢ x2
x1_x2 e = true≢false (ap is_x1 e)

pub x1_x3 : x1 ≢ x3
x1_x3 e = true≢false (ap is_x1 e)

pub x2_x3 : x2 ≢ x3
x2_x3 e = true≢false (ap is_x2 e)

on_it : (e : Entry) (i : Axis) → ((i ≡ i) × IsUnit e) ⊎ ((i ≢ i) × (e ≡ nought)) → unit_test e ≡ true
on_it e i (inl h) = unit_of e h.1
on_it e i (inr h) = absurd (h.0 refl)

off_it : (e : Entry) (i j : Axis) → (i ≢ j) → ((i ≡ j) × IsUnit e) ⊎ ((i ≢ j) × (e ≡ nought)) → zero_test e ≡ true
off_it e i j n (inl h) = absurd (n h.0)
off_it e i j n (inr h) = same_entry_of e nought h.1

pub diagonal_of : (g : Operation) → IsDiagonal g → diagonal_test g ≡ true
diagonal_of g h = three _ _ _
    (three _ _ _ (on_it (entry g x1 x1) x1 (h x1 x1)) (off_it (entry g x1 x2) x1 x2 x1_x2 (h x1 x2))
    (off_it (entry g x1 x3) x1 x3 x1_x3 (h x1 x3)))
    (three _ _ _ (off_it (entry g x2 x1) x2 x1 (λ e. x1_x2 (sym e)) (h x2 x1)) (on_it (entry g x2 x2) x2 (h x2 x2))
    (off_it (entry g x2 x3) x2 x3 x2_x3 (h x2 x3)))
    (three _ _ _ (off_it (entry g x3 x1) x3 x1 (λ e. x1_x3 (sym e)) (h x3 x1))
    (off_it (entry g x3 x2) x3 x2 (λ e. x2_x3 (sym e)) (h x3 x2)) (on_it (entry g x3 x3) x3 (h x3 x3)))

pub diagonal_told : (g : Operation) → diagonal_test g ≡ true → IsDiagonal g
diagonal_told g e = at
  where
    rows : (also (unit_test (entry g x1 x1)) (also (zero_test (entry g x1 x2)) (zero_test (entry g x1 x3))) ≡ true) ×
        (also (zero_test (entry g x2 x1)) (also (unit_test (entry g x2 x2)) (zero_test (entry g x2 x3))) ≡ true) ×
        (also (zero_test (entry g x3 x1)) (also (zero_test (entry g x3 x2)) (unit_test (entry g x3 x3))) ≡ true)
    rows = three_told (also (unit_test (entry g x1 x1)) (also (zero_test (entry g x1 x2)) (zero_test (entry g x1 x3))))
        (also (zero_test (entry g x2 x1)) (also (unit_test (entry g x2 x2)) (zero_test (entry g x2 x3))))
        (also (zero_test (entry g x3 x1)) (also (zero_test (entry g x3 x2)) (unit_test (entry g x3 x3)))) e

    at : (i j : Axis) → ((i ≡ j) × IsUnit (entry g i j)) ⊎ ((i ≢ j) × (entry g i j ≡ nought))
    at x1 x1 = inl (
      refl,
      unit_told _ (three_told (unit_test (entry g x1 x1)) (zero_test (entry g x1 x2))
          (zero_test (entry g x1 x3)) rows.0).0,
    )
    at x1 x2 = inr (
      x1_x2,
      same_entry_true _ nought (three_told (unit_test (entry g x1 x1)) (zero_test (entry g x1 x2))
          (zero_test (entry g x1 x3)) rows.0).1,
    )
    at x1 x3 = inr (
      x1_x3,
      same_entry_true _ nought (three_told (unit_test (entry g x1 x1)) (zero_test (entry g x1 x2))
          (zero_test (entry g x1 x3)) rows.0).2,
    )
    at x2 x1 = inr (
      λ e. x1_x2 (sym e),
      same_entry_true _ nought
          (three_told (zero_test (entry g x2 x1)) (unit_test (entry g x2 x2)) (zero_test (entry g x2 x3)) rows.1).0,
    )
    at x2 x2 = inl (
      refl,
      unit_told _ (three_told (zero_test (entry g x2 x1)) (unit_test (entry g x2 x2))
          (zero_test (entry g x2 x3)) rows.1).1,
    )
    at x2 x3 = inr (
      x2_x3,
      same_entry_true _ nought (three_told (zero_test (entry g x2 x1)) (unit_test (entry g x2 x2))
          (zero_test (entry g x2 x3)) rows.1).2,
    )
    at x3 x1 = inr (
      λ e. x1_x3 (sym e),
      same_entry_true _ nought
          (three_told (zero_test (entry g x3 x1)) (zero_test (entry g x3 x2)) (unit_test (entry g x3 x3)) rows.2).0,
    )
    at x3 x2 = inr (
      λ e. x2_x3 (sym e),
      same_entry_true _ nought
          (three_told (zero_test (entry g x3 x1)) (zero_test (entry g x3 x2)) (unit_test (entry g x3 x3)) rows.2).1,
    )
    at x3 x3 = inl (
      refl,
      unit_told _ (three_told (zero_test (entry g x3 x1)) (zero_test (entry g x3 x2))
          (unit_test (entry g x3 x3)) rows.2).2,
    )
