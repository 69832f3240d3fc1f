-- Operations that act the same.
--   value_same, value_opposite    matrices at the same place, and at opposite ones
--   power-more, alike, same_factors    a product of one sign more; the factors of two operations
--   rows_alike      they have the same rows
use Rattle.std.proofs.Common.{◌≡◌, ℕ, suc, ◌+◌, ◌-◌, ◌/◌, ◌%◌, ◌<◌, Bool, true, false, [], ◌∷◌, length, refl, ap, sym, ◌∙◌, subst, arith}
use Rattle.std.specs.Prelude.{◌≢◌, nat_eq}
use lib.IntN.{negsuc, ◌*ℤ◌}
use Rattle.list_laws.proofs.Below.{all_below, below_told}
use Rattle.tensor_defs.specs.Prelude.{Each, IsRoot3, Number, half_of, mul, neg, num_one, num_zero, Axis, x1, x2, x3, Entry, Operation, Row, entry, in_row}
use Rattle.tensor_defs.specs.Prelude.{value, same_entry, IsStateRow, StateRowGrows, factor_at, state_row, sum_of, Table, Index, Marks, coefficient, indices}
use Rattle.tensor_defs.specs.Prelude.{sign}
use Rattle.tensor_defs.specs.declared.Sign.{Sign}
use Rattle.tensor_defs.specs.declared.Sign.TheVariants.{Plus, Minus}
use Rattle.number_laws.proofs.NumberLaws.{num_mul_assoc, num_mul_left_comm}
use Rattle.op_matrix.specs.Table.{nth_operation, operation_at}
use Rattle.op_matrix.proofs.Frames.{also, same_entry_true, three_told}
use Rattle.sign_moves.specs.Signs.{signed, times, times_plus}
use Rattle.sign_moves.proofs.SignLaws.{signed-signed, signed_zero}
use Rattle.tensor_action.specs.Acting.{SumGrows, factor}
use Rattle.state_marks.specs.Alike.{AreAlike, sign_power}
use Rattle.state_marks.specs.Sums.{column}
use Rattle.state_marks.specs.Told.{AreStateRows, StateValue, TellsRow, is_marked, row_of}
use Rattle.state_marks.proofs.Bounds.{neg_triple}

-- ---- matrices at opposite places
abbrev negated : Entry → Entry
negated e = record { rational = negsuc 0 *ℤ e.rational; root = negsuc 0 *ℤ e.root }

abbrev opposite_row : Row → Row → Bool
opposite_row r s =
    also (same_entry (negated r.first) s.first)
    (also (same_entry (negated r.second) s.second) (same_entry (negated r.third) s.third))

abbrev are_opposite : Operation → Operation → Bool
are_opposite g h = also (opposite_row g.row_1 h.row_1) (also (opposite_row g.row_2 h.row_2) (opposite_row g.row_3 h.row_3))

row_told : (r s : Row) → opposite_row r s ≡ true → (j : Axis) → negated (in_row r j) ≡ in_row s j
row_told r s e x1 =
    same_entry_true (negated r.first) s.first
    (three_told (same_entry (negated r.first) s.first) (same_entry (negated r.second) s.second) (same_entry (negated r.third) s.third) e).0
row_told r s e x2 =
    same_entry_true (negated r.second) s.second
    (three_told (same_entry (negated r.first) s.first) (same_entry (negated r.second) s.second) (same_entry (negated r.third) s.third) e).1
row_told r s e x3 =
    same_entry_true (negated r.third) s.third
    (three_told (same_entry (negated r.first) s.first) (same_entry (negated r.second) s.second) (same_entry (negated r.third) s.third) e).2

entry_told : (g h : Operation) → are_opposite g h ≡ true → (i j : Axis) → negated (entry g i j) ≡ entry h i j
entry_told g h e x1 j =
    row_told g.row_1 h.row_1
    (three_told (opposite_row g.row_1 h.row_1) (opposite_row g.row_2 h.row_2) (opposite_row g.row_3 h.row_3) e).0 j
entry_told g h e x2 j =
    row_told g.row_2 h.row_2
    (three_told (opposite_row g.row_1 h.row_1) (opposite_row g.row_2 h.row_2) (opposite_row g.row_3 h.row_3) e).1 j
entry_told g h e x3 j =
    row_told g.row_3 h.row_3
    (three_told (opposite_row g.row_1 h.row_1) (opposite_row g.row_2 h.row_2) (opposite_row g.row_3 h.row_3) e).2 j

all_opposite : all_below 64 (λ n. are_opposite (operation_at n true) (operation_at (63 - n) true)) ≡ true
unfolding operation_at
all_opposite = refl

marks_aside : (n : ℕ) (p : Bool) (i j : Axis) → entry (operation_at n p) i j ≡ entry (operation_at n true) i j
unfolding operation_at
marks_aside n p x1 j = refl
marks_aside n p x2 j = refl
marks_aside n p x3 j = refl

entry_at : (g : Operation) (a : ℕ) → g ≡ nth_operation a → (i j : Axis) → entry g i j ≡ entry (operation_at (a / 2) true) i j
unfolding nth_operation
entry_at g a e i j = ap (λ o. entry o i j) e ∙ marks_aside (a / 2) (nat_eq (a % 2) 1) i j

module _ (g h : Operation) (a b : ℕ) (e : g ≡ nth_operation a) (f : h ≡ nth_operation b) (i j : Axis) where
  pub value_same : a / 2 ≡ b / 2 → value h i j ≡ value g i j
  unfolding value
  value_same s =
      let x : entry h i j ≡ entry g i j =
      entry_at h b f i j ∙ ap (λ n. entry (operation_at n true) i j) (sym s) ∙ sym (entry_at g a e i j) in
      λ n. half_of (x n).rational (x n).root

  pub value_opposite : a < 128 → a / 2 + b / 2 ≡ 63 → value h i j ≡ neg (value g i j)
  unfolding value half_of
  value_opposite l s =
      let small : a / 2 < 64 = omega (arith, l) in
      let other : 63 - a / 2 ≡ b / 2 = omega (arith, s) in
      let told = entry_told (operation_at (a / 2) true) (operation_at (63 - a / 2) true)
      (below_told 64 (λ n. are_opposite (operation_at n true) (operation_at (63 - n) true)) all_opposite (a / 2) small) i j in
      let x : entry h i j ≡ negated (entry g i j) =
      entry_at h b f i j ∙ ap (λ n. entry (operation_at n true) i j) (sym other) ∙ sym told ∙ ap negated (sym (entry_at g a e i j)) in
      (λ n. half_of (x n).rational (x n).root) ∙ sym (neg_triple (entry g i j).rational (entry g i j).root 2 _)

-- ---- signs
pub power-more : (s : Sign) (n : ℕ) (u v : Sign) → u ≡ sign_power s n → v ≡ times s u → v ≡ sign_power s (n + 1)
power-more s n u v e f = let next : suc n ≡ n + 1 = omega arith in f ∙ ap (times s) e ∙ ap (sign_power s) next

pub same_signs : (p q : Sign) → times p q ≡ Plus → p ≡ q
same_signs Plus Plus e = refl
same_signs Plus Minus e = cc
same_signs Minus Plus e = cc
same_signs Minus Minus e = refl

mul-signed : (s : Sign) (x y : Number) → mul x (signed s y) ≡ signed s (mul x y)
mul-signed Plus x y = refl
mul-signed Minus x y = num_mul_left_comm x _ y

signed-product : (s u : Sign) (x y : Number) → mul (signed s x) (signed u y) ≡ signed (times s u) (mul x y)
signed-product Plus u x y = mul-signed u x y
signed-product Minus u x y =
    num_mul_assoc _ x (signed u y) ∙ ap neg (mul-signed u x y) ∙ signed-signed Minus u (mul x y)

coefficient-signed : (g h : Operation) (s : Sign) → ((i j : Axis) → value h i j ≡ signed s (value g i j)) → (is js : Index) →
    coefficient h is js ≡ signed (sign_power s (length is)) (coefficient g is js)
coefficient-signed g h s e [] [] = refl
coefficient-signed g h s e [] (j ∷ js) = refl
coefficient-signed g h s e (i ∷ is) [] = sym (signed_zero (sign_power s (suc (length is))))
coefficient-signed g h s e (i ∷ is) (j ∷ js) =
    (λ n. mul (e i j n) (coefficient-signed g h s e is js n))
    ∙ signed-product s (sign_power s (length is)) (value g i j) (coefficient g is js)

pub alike : (m : Marks) (r : ℕ) (g h : Operation) (s p q : Sign) → ((i j : Axis) → value h i j ≡ signed s (value g i j)) →
    sign m g ≡ signed p num_one → sign m h ≡ signed q num_one → p ≡ times q (sign_power s r) → AreAlike m r g h
alike m r g h s p q e a b c i l j =
    let x = coefficient g i j in
    let u = sign_power s (length i) in
    let same : p ≡ times q u = c ∙ ap (λ n. times q (sign_power s n)) (sym l) in
    ap (λ y. mul y x) a ∙ signed-product p Plus num_one x ∙ ap (λ w. signed w (mul num_one x)) (times_plus p ∙ same)
    ∙ sym ((λ n. mul (b n) (coefficient-signed g h s e i j n)) ∙ signed-product q u num_one x)

pub same_factors : (m : Marks) (r : ℕ) (g h : Operation) → AreAlike m r g h → (i : Index) → length i ≡ r → factor m g i ≡ factor m h i
same_factors m r g h same i l = λ n j. same i l j n

-- ---- rows
module _ (m : Marks) (r : ℕ) (a : Table) (g h : Operation) (same : AreAlike m r g h) (s : StateValue) (told : AreStateRows m g r a s) where
  rows_same : (i : Index) → length i ≡ r → state_row m g a r i ≡ state_row m h a r i
  rows_same i l = λ n k. sum_of (λ j. mul (same i l j n) (factor_at (a.terms j) k)) (indices r)

  row : (i : Index) → length i ≡ r → IsStateRow m h a r i (row_of s i)
  row i l = record {
    rising = (told.rows i l).rising;
    terms = subst (λ f. Each (λ t. (t.place < length a.free) × (f t.place ≢ num_zero) × IsRoot3 (f t.place) t.factor) (row_of s i))
        (rows_same i l) (told.rows i l).terms;
    whole = λ k b some. (told.rows i l).whole k b (λ z. some (sym (λ n. rows_same i l n k) ∙ z));
  }

  calm : (i : Index) → length i ≡ r → StateRowGrows m h a r i → ⊥
  calm i l grows = told.calm i l (grows.0, grows.1, subst (λ f. SumGrows r f (column a grows.0)) (sym (same_factors m r g h same i l)) grows.2)

  marked : (i : Index) → length i ≡ r → (b : Bool) → TellsRow m g a r i b → TellsRow m h a r i b
  marked i l true (k, b, other) = (k, b, λ e. other ((λ n. rows_same i l n k) ∙ e))
  marked i l false all = λ k b. sym (λ n. rows_same i l n k) ∙ all k b

  pub rows_alike : AreStateRows m h r a s
  rows_alike = record {
    rows = row;
    calm = calm;
    marks = λ i l. marked i l (is_marked s i) (told.marks i l);
  }
