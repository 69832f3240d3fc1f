-- Every plain and every hexagonal operation is in the table, so they have products and inverses, which are of their frame.
--   Coded    in the table, with a frame that passes the test
--   plain_listed    plain ones
--   hex_listed    hexagonal ones
--   plain_product, hex_product, Placed, plain_placed, hex_placed, plain_identity, hex_identity    products
--   zero_plain, OneTimes, plain_one, hex_one    the identity, and inverses
use Rattle.list_laws.proofs.Kit.{◌≡◌, ℕ, zero, suc, ◌<◌, Bool, true, false, refl, sym, ◌∙◌, subst, lit<, inl, inr, ltb-true}
use Rattle.std.specs.Prelude.{nat_lt}
use Rattle.list_laws.proofs.Prelude.{all_below, below_told, below_told_2, implied}
use mathlib.Core.Bool.{xor}
use Rattle.tensor_defs.specs.Prelude.{x1, x2, x3, Entry, Row, Operation, IsProduct, identity, one, nought, minus_one, OneUnit, IsPlain, IsHexagonal}
use Rattle.tensor_defs.specs.Prelude.{SameMatrix}
use Rattle.tensor_laws.proofs.Groups.{one_times, times_one}
use Rattle.op_matrix.specs.Prelude.{operation_at, nth_operation, place, matrix_place, same_row, same_matrix, hex_frame, plain_frame}
use Rattle.op_matrix.specs.declared.entry.Frame.{Frame}
use Rattle.op_matrix.proofs.Frames.{also, three_told, same_entry_true, plain_test, plain_of}
use Rattle.op_matrix.proofs.Products.{product_code, frame_code, product_at, product_code_below}
use Rattle.op_matrix.proofs.Facts.{nth_at, place_below, the_place}
use Rattle.op_matrix.proofs.Hexagonal.{Listed, listed_unique, turns_listed, diagonal_listed, implies}
use Rattle.op_matrix.proofs.Hexagonal.{hex_common, plain_common, hex_kept_at, plain_kept_at}
use Rattle.op_matrix.proofs.Hexagonal.{plain_at_told, hex_told}

-- in the table, with a frame that passes the test
abbrev pub Coded : (Frame → Bool) → Operation → Type 0
Coded fr g = (n : ℕ) × (n < 64) × (fr (frame_code n) ≡ true) × (g ≡ operation_at n g.primed)

-- ---- plain ones
abbrev a_row : Entry → Entry → Entry → Row
a_row a b c = record { first = a; second = b; third = c }

abbrev axis_row : ℕ → Row
axis_row zero = a_row one nought nought
axis_row (suc zero) = a_row minus_one nought nought
axis_row (suc (suc zero)) = a_row nought one nought
axis_row (suc (suc (suc zero))) = a_row nought minus_one nought
axis_row (suc (suc (suc (suc zero)))) = a_row nought nought one
axis_row (suc (suc (suc (suc (suc n))))) = a_row nought nought minus_one

row_of : (a b c : Entry) → OneUnit a b c → (r : ℕ) × (r < 6) × (a_row a b c ≡ axis_row r)
row_of a b c (inl (inl e, f, g)) = (0, lit< tt, λ i. a_row (e i) (f i) (g i))
row_of a b c (inl (inr e, f, g)) = (1, lit< tt, λ i. a_row (e i) (f i) (g i))
row_of a b c (inr (inl (e, inl f, g))) = (2, lit< tt, λ i. a_row (e i) (f i) (g i))
row_of a b c (inr (inl (e, inr f, g))) = (3, lit< tt, λ i. a_row (e i) (f i) (g i))
row_of a b c (inr (inr (e, f, inl g))) = (4, lit< tt, λ i. a_row (e i) (f i) (g i))
row_of a b c (inr (inr (e, f, inr g))) = (5, lit< tt, λ i. a_row (e i) (f i) (g i))

abbrev of_rows : Row → Row → Row → Bool → Operation
of_rows a b c p = record { row_1 = a; row_2 = b; row_3 = c; primed = p }

abbrev of_axes : ℕ → ℕ → ℕ → Bool → Operation
of_axes a b c p = of_rows (axis_row a) (axis_row b) (axis_row c) p

abbrev in_table : Operation → Bool
in_table g = also (nat_lt (matrix_place g) 64) (also (plain_frame (frame_code (matrix_place g)))
    (same_matrix (operation_at (matrix_place g) false) g))

abbrev table_right : ℕ → ℕ → ℕ → Bool
table_right a b c = implies (plain_test (of_axes a b c false)) (in_table (of_axes a b c false))

table_all : all_below 6 (λ a. all_below 6 (λ b. all_below 6 (table_right a b))) ≡ true
unfolding operation_at matrix_place frame_code
table_all = refl

same_row_true : (r s : Row) → same_row r s ≡ true → r ≡ s
same_row_true r s e =
    let t : (_ ≡ true) × (_ ≡ true) × (_ ≡ true) = three_told _ _ _ e in
    λ i. a_row (same_entry_true r.first s.first t.0 i) (same_entry_true r.second s.second t.1 i)
    (same_entry_true r.third s.third t.2 i)

with_mark : (g : Operation) (n : ℕ) (p : Bool) → same_matrix (operation_at n false) g ≡ true →
    of_rows g.row_1 g.row_2 g.row_3 p ≡ operation_at n p
unfolding operation_at
with_mark g n p e =
    let t : (_ ≡ true) × (_ ≡ true) × (_ ≡ true) = three_told _ _ _ e in
    sym (λ i. of_rows (same_row_true (operation_at n false).row_1 g.row_1 t.0 i)
    (same_row_true (operation_at n false).row_2 g.row_2 t.1 i)
    (same_row_true (operation_at n false).row_3 g.row_3 t.2 i) p)

coded_axes : (a b c : ℕ) (p : Bool) → a < 6 → b < 6 → c < 6 → IsPlain (of_axes a b c p) →
    Coded plain_frame (of_axes a b c p)
coded_axes a b c p h k l e =
    let g : Operation = of_axes a b c false in
    let t : in_table g ≡ true = implied (plain_test g) (in_table g)
    (below_told 6 (table_right a b) (below_told_2 6 6 (λ a b. all_below 6 (table_right a b)) table_all a b h k) c l)
    (plain_of (of_axes a b c p) e) in
    let u : (_ ≡ true) × (_ ≡ true) × (_ ≡ true) = three_told (nat_lt (matrix_place g) 64)
    (plain_frame (frame_code (matrix_place g))) (same_matrix (operation_at (matrix_place g) false) g) t in
    (matrix_place g, ltb-true _ _ u.0, u.1, with_mark g (matrix_place g) p u.2)

pub plain_listed : (g : Operation) → IsPlain g → Coded plain_frame g
plain_listed g h =
    let a = row_of _ _ _ (h.rows x1) in
    let b = row_of _ _ _ (h.rows x2) in
    let c = row_of _ _ _ (h.rows x3) in
    let e : g ≡ of_axes a.0 b.0 c.0 g.primed = λ i. of_rows (a.2 i) (b.2 i) (c.2 i) g.primed in
    subst (Coded plain_frame) (sym e) (coded_axes a.0 b.0 c.0 g.primed a.1 b.1 c.1 (subst IsPlain e h))

-- ---- hexagonal ones
same_rows : (g k : Operation) → SameMatrix k g → g ≡ of_rows k.row_1 k.row_2 k.row_3 g.primed
same_rows g k s = sym (λ i. of_rows (a_row (s x1 x1 i) (s x1 x2 i) (s x1 x3 i))
    (a_row (s x2 x1 i) (s x2 x2 i) (s x2 x3 i)) (a_row (s x3 x1 i) (s x3 x2 i) (s x3 x3 i)) g.primed)

marked_anew : (k : Operation) (n : ℕ) (p : Bool) → k ≡ operation_at n k.primed →
    of_rows k.row_1 k.row_2 k.row_3 p ≡ operation_at n p
unfolding operation_at
marked_anew k n p e = λ i. of_rows (e i).row_1 (e i).row_2 (e i).row_3 p

pub hex_listed : (g : Operation) → IsHexagonal g → Coded hex_frame g
hex_listed g (r, d, k, t, e, q, s) =
    let l : Listed k = listed_unique r d k (turns_listed r t) (diagonal_listed d e) q in
    (l.0, l.1, l.2, same_rows g k s ∙ marked_anew k l.0 g.primed l.3)

-- ---- products
abbrev product_coded : (fr : Frame → Bool) (g h : Operation) → Coded fr g → Coded fr h → Operation
product_coded fr g h a b = operation_at (product_code a.0 b.0) (xor g.primed h.primed)

pub plain_product : (g h : Operation) → IsPlain g → IsPlain h → (k : Operation) × IsPlain k × IsProduct g h k
plain_product g h p q =
    let a = plain_listed g p in
    let b = plain_listed h q in
    let k : Operation = product_coded plain_frame g h a b in (
      k,
      plain_at_told (product_code a.0 b.0) (xor g.primed h.primed) (product_code_below a.0 b.0 a.1 b.1)
          (plain_kept_at a.0 b.0 a.1 b.1 a.2 b.2),
      subst (λ x. IsProduct x h k) (sym a.3)
          (subst (λ x. IsProduct (operation_at a.0 g.primed) x k) (sym b.3)
          (product_at a.0 b.0 g.primed h.primed (xor g.primed h.primed) a.1 b.1
          (plain_common (frame_code a.0) (frame_code b.0) a.2 b.2) refl)),
    )

pub hex_product : (g h : Operation) → IsHexagonal g → IsHexagonal h → (k : Operation) × IsHexagonal k × IsProduct g h k
hex_product g h p q =
    let a = hex_listed g p in
    let b = hex_listed h q in
    let k : Operation = product_coded hex_frame g h a b in (
      k,
      hex_told (product_code a.0 b.0) (xor g.primed h.primed) (product_code_below a.0 b.0 a.1 b.1)
          (hex_kept_at a.0 b.0 a.1 b.1 a.2 b.2),
      subst (λ x. IsProduct x h k) (sym a.3)
          (subst (λ x. IsProduct (operation_at a.0 g.primed) x k) (sym b.3)
          (product_at a.0 b.0 g.primed h.primed (xor g.primed h.primed) a.1 b.1
          (hex_common (frame_code a.0) (frame_code b.0) a.2 b.2) refl)),
    )

-- the place of an operation of the table
abbrev pub Placed : Operation → Type 0
Placed g = (place g < 128) × (g ≡ nth_operation (place g))

placed_at : (n : ℕ) (p : Bool) → n < 64 → Placed (operation_at n p)
placed_at n p h = subst (λ x. (x < 128) × (operation_at n p ≡ nth_operation x)) (the_place n p h)
    (place_below n p h, sym (nth_at n p))

pub plain_placed : (g : Operation) → IsPlain g → Placed g
plain_placed g h = let a = plain_listed g h in subst Placed (sym a.3) (placed_at a.0 g.primed a.1)

pub hex_placed : (g : Operation) → IsHexagonal g → Placed g
hex_placed g h = let a = hex_listed g h in subst Placed (sym a.3) (placed_at a.0 g.primed a.1)

pub plain_identity : IsPlain identity
unfolding operation_at frame_code
plain_identity = plain_at_told 0 false (lit< tt) refl

pub hex_identity : IsHexagonal identity
unfolding operation_at frame_code
hex_identity = hex_told 0 false (lit< tt) refl

-- ---- the identity, and inverses

pub zero_plain : plain_frame (frame_code 0) ≡ true
unfolding frame_code
zero_plain = refl

abbrev pub OneTimes : Operation → Type 0
OneTimes g = IsProduct identity g g × IsProduct g identity g

pub plain_one : (g : Operation) → IsPlain g → OneTimes g
plain_one g h = (one_times g, times_one g)

pub hex_one : (g : Operation) → IsHexagonal g → OneTimes g
hex_one g h = (one_times g, times_one g)
