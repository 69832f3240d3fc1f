-- The invariant tensors are exactly the lists that follow their representatives and whose rows of words add up to zero.
--   rows_decide_invariance_lem    both ways
use Rattle.std.proofs.Common.{◌≡◌, ℕ, true, false, Bool, List, [], ◌∷◌, length, get_or, refl, ap, sym, ◌∙◌, inl, inr}
use Rattle.std.specs.Prelude.{◌↔◌, Some, None, Contains, filter}
use Rattle.tensor_laws.proofs.Prelude.{three_determinant, turned, act-turned, rows_decide_lem}
use Rattle.number_laws.proofs.NumberLaws.{num_mul-one, num_mul-zero, num_one-mul, num_minus_one-mul}
use Rattle.sign_moves.proofs.SignLaws.{own_negative}
use Rattle.sparse_rows.specs.Solutions.{dot, Solve}
use Rattle.tensor_defs.specs.Prelude.{Carrier, IsDropped, AreRepresentatives, AreUnknowns, carried, rows_of, AllOf, IsDiagonal, IsFramed, IsHexagonal}
use Rattle.tensor_defs.specs.Prelude.{JahnSymbol, IsInvariant, rank, Each, Number, mul, num_zero, num_one, Operation, IsProduct, IsOrder, Index, Tensor}
use Rattle.tensor_defs.specs.Prelude.{Marks, Agree, act, axial_sign, coefficient, sign, sum_indices, time_sign, Word, even_row, odd_row, is_used, words}
use Rattle.tensor_laws.specs.Laws.{three_z, row_sum}
use Rattle.axis_laws.proofs.Carrying.{carried_sum}
use Rattle.axis_laws.proofs.Diagonals.{diagonal_acts, coefficient_sign, sign_is_sign}
use Rattle.axis_laws.proofs.Signs.{sign_mul}
use Rattle.axis_laws.proofs.Symmetry.{unknown_of, symmetric_told}
use Rattle.axis_laws.proofs.Turns.{hexagonal_kept}
use Rattle.axis_laws.proofs.UsedWords.{BothVanish, used_of, used_length, used_told}
use Rattle.axis_laws.specs.Laws.{SolvesRows, RowsDecideInvariance}

-- ---- the threefold rotation acts with no sign, whatever the marks
three_sign : (m : Marks) → sign m three_z ≡ num_one
unfolding sign
three_sign m = (λ i. mul (axial m.axial i) (time m.magnetic i)) ∙ num_mul-one num_one
  where
    axial : (a : Bool) → axial_sign a three_z ≡ num_one
    axial true = three_determinant
    axial false = refl

    time : (a : Bool) → time_sign a three_z.primed ≡ num_one
    time true = refl
    time false = refl

three_acts : (m n : Marks) (t : Tensor) (is : Index) → act m three_z t is ≡ act n three_z t is
three_acts m n t is =
    act-turned m three_z t is ∙ ap (λ s. mul s (turned three_z t is)) (three_sign m ∙ sym (three_sign n))
    ∙ sym (act-turned n three_z t is)

abbrev no_marks : Marks
no_marks = record { axial = false; magnetic = false }

-- ---- rows
module _ (r : ℕ) (rep : Carrier) (us : List Index) (t : Tensor) (sums : (k : Index → Number) →
    dot (length us) (carried rep r us k) (λ p. t (get_or us p [])) ≡ sum_indices r (λ c. mul (k c) (t c))) where
  row_of : (row : Word → Index → Number) (w : Word) → length w ≡ r →
      dot (length us) (carried rep r us (row w)) (λ p. t (get_or us p [])) ≡ row_sum row w t
  row_of row w n = sums (row w) ∙ ap (λ m. sum_indices m (λ c. mul (row w c) (t c))) (sym n)

  pub solve_of : (ws : List Word) → Each (λ w. (length w ≡ r) × BothVanish t w) ws →
      Solve (length us) (λ p. t (get_or us p [])) (rows_of rep r us ws)
  solve_of [] e = tt
  solve_of (w ∷ ws) e =
      (row_of even_row w e.0.0 ∙ e.0.1.0, (row_of odd_row w e.0.0 ∙ e.0.1.1, solve_of ws e.1))

  pub solve_told : (ws : List Word) → Each (λ w. length w ≡ r) ws →
      Solve (length us) (λ p. t (get_or us p [])) (rows_of rep r us ws) → Each (BothVanish t) ws
  solve_told [] l e = tt
  solve_told (w ∷ ws) l e =
      ((sym (row_of even_row w l.0) ∙ e.0, sym (row_of odd_row w l.0) ∙ e.1.0), solve_told ws l.1 e.1.1)

-- ---- lists that follow their representatives
module _ (j : JahnSymbol) (H : Operation → Type 0) (before : Index → Index → Bool) (rep : Carrier)
    (p : AreRepresentatives j H before rep) (t : Tensor) where
  dropped_zero : IsInvariant j H t → (c : Index) → length c ≡ rank j → IsDropped j H c → t c ≡ num_zero
  dropped_zero v c n (inl z) = z t v.symmetric
  dropped_zero v c n (inr (g, m, d, e)) =
      own_negative (t c) (sym (v.unchanged g m c n) ∙ diagonal_acts g d j.marks t c ∙ ap (λ x. mul x (t c)) e
      ∙ num_minus_one-mul (t c))

  -- an invariant list does
  pub none_told : IsInvariant j H t → (c : Index) → length c ≡ rank j → rep c ≡ None → t c ≡ num_zero
  none_told v c n e = dropped_zero v c n ((p.none c n).0 e)

  pub some_told : IsInvariant j H t → (c d : Index) (s : Number) → length c ≡ rank j → rep c ≡ Some (d, s) →
      t c ≡ mul s (t d)
  some_told v c d s n e = (p.some c d s n e).tied t v.symmetric

  -- a diagonal member leaves the list the same
  pub diagonal_kept : ((c : Index) → length c ≡ rank j → rep c ≡ None → t c ≡ num_zero) →
      (d : Operation) → H d → IsDiagonal d → Agree (rank j) (act j.marks d t) t
  diagonal_kept none d m h c n =
      diagonal_acts d h j.marks t c
      ∙ elim (sign_mul (sign j.marks d) (coefficient d c c) (sign_is_sign d h j.marks) (coefficient_sign d h c)) [
        | inl e ↦ ap (λ x. mul x (t c)) e ∙ num_one-mul (t c)
        | inr e ↦
            let z : t c ≡ num_zero = none c n ((p.none c n).1 (inr (d, m, h, e))) in
            ap (mul (mul (sign j.marks d) (coefficient d c c))) z ∙ num_mul-zero _ ∙ sym z
      ]

  pub sums_carried : (us : List Index) → IsOrder (rank j) before → AreUnknowns (rank j) before rep us →
      ((c : Index) → length c ≡ rank j → rep c ≡ None → t c ≡ num_zero) →
      ((c d : Index) (s : Number) → length c ≡ rank j → rep c ≡ Some (d, s) → t c ≡ mul s (t d)) →
      (k : Index → Number) → dot (length us) (carried rep (rank j) us k) (λ p. t (get_or us p []))
      ≡ sum_indices (rank j) (λ c. mul (k c) (t c))
  sums_carried us order known none some =
      carried_sum (rank j) before order rep us known
      (λ c d s n e. ((p.some c d s n e).of_rank, unknown_of j H before order rep p c d s n e)) t none some

-- ---- both ways
module _ (j : JahnSymbol) (H : Operation → Type 0) (before : Index → Index → Bool) (rep : Carrier) (us : List Index)
    (order : IsOrder (rank j) before) (p : AreRepresentatives j H before rep)
    (known : AreUnknowns (rank j) before rep us) (three : H three_z) (t : Tensor) where
  abbrev sums : ((c : Index) → length c ≡ rank j → rep c ≡ None → t c ≡ num_zero) →
      ((c d : Index) (s : Number) → length c ≡ rank j → rep c ≡ Some (d, s) → t c ≡ mul s (t d)) →
      (k : Index → Number) → dot (length us) (carried rep (rank j) us k) (λ p. t (get_or us p []))
      ≡ sum_indices (rank j) (λ c. mul (k c) (t c))
  sums = sums_carried j H before rep p t us order known

  solves : IsInvariant j H t → SolvesRows j rep us t
  solves v =
      let none = none_told j H before rep p t v in
      let some = some_told j H before rep p t v in
      record {
        none = none;
        some = some;
        rows = solve_of (rank j) rep us t (sums none some) (filter is_used (words (rank j)))
            (used_of (rank j) t ((rows_decide_lem (rank j) t).0
            (λ is n. three_acts no_marks j.marks t is ∙ v.unchanged three_z three is n)));
      }

  turn_kept : SolvesRows j rep us t → Agree (rank j) (act j.marks three_z t) t
  turn_kept v is n =
      three_acts j.marks no_marks t is
      ∙ (rows_decide_lem (rank j) t).1 (used_told (rank j) t (solve_told (rank j) rep us t (sums v.none v.some)
      (filter is_used (words (rank j))) (used_length (rank j)) v.rows)) is n

  invariant : ((g h k : Operation) → H g → H h → IsProduct g h k → H k) → AllOf H IsHexagonal →
      SolvesRows j rep us t → IsInvariant j H t
  invariant closed hex v = record {
    symmetric = symmetric_told j H before order rep p t v.none v.some;
    unchanged = λ g m. hexagonal_kept j.marks (rank j) t H closed three (diagonal_kept j H before rep p t v.none) (turn_kept v) g m (hex g m);
  }

pub rows_decide_invariance_lem : RowsDecideInvariance
rows_decide_invariance_lem j hs before rep us order closed framed mixed p known t = at framed
  where
    H : Operation → Type 0
    H g = Contains hs g

    at : IsFramed H → IsInvariant j H t ↔ SolvesRows j rep us t
    at (inl plain) = absurd (mixed plain)
    at (inr (hex, turn)) =
        let three : H three_z = turn three_z refl in (
          solves j H before rep us order p known three t,
          invariant j H before rep us order p known three t closed.closed hex,
        )
