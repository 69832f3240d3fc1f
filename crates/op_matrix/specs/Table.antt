-- The 64 matrices that are plain or hexagonal, in the order of operations.
--   operation_at    the operation with matrix n of the list and the mark p
--   matrix_place    the place of the matrix in the list
--   place    the place of an operation among all 128 in their order
--   nth_operation    the operation at a place in the order of all 128
use Rattle.std.specs.Prelude.{ℕ, zero, suc, ◌+◌, ◌*◌, ◌/◌, ◌%◌, nat_eq, Bool, false, List, [], ◌∷◌, cond}
use Rattle.tensor_defs.specs.Prelude.{Operation, Row, identity, matrix, one, nought, minus_one, half, minus_half, h, minus_h, same_entry}

abbrev pub matrices : List Operation
matrices =
    matrix one nought nought nought one nought nought nought one false ∷
    matrix one nought nought nought one nought nought nought minus_one false ∷
    matrix one nought nought nought nought one nought one nought false ∷
    matrix one nought nought nought nought one nought minus_one nought false ∷
    matrix one nought nought nought nought minus_one nought one nought false ∷
    matrix one nought nought nought nought minus_one nought minus_one nought false ∷
    matrix one nought nought nought minus_one nought nought nought one false ∷
    matrix one nought nought nought minus_one nought nought nought minus_one false ∷
    matrix half h nought h minus_half nought nought nought one false ∷
    matrix half h nought h minus_half nought nought nought minus_one false ∷
    matrix half h nought minus_h half nought nought nought one false ∷
    matrix half h nought minus_h half nought nought nought minus_one false ∷
    matrix half minus_h nought h half nought nought nought one false ∷
    matrix half minus_h nought h half nought nought nought minus_one false ∷
    matrix half minus_h nought minus_h minus_half nought nought nought one false ∷
    matrix half minus_h nought minus_h minus_half nought nought nought minus_one false ∷
    matrix nought one nought one nought nought nought nought one false ∷
    matrix nought one nought one nought nought nought nought minus_one false ∷
    matrix nought one nought nought nought one one nought nought false ∷
    matrix nought one nought nought nought one minus_one nought nought false ∷
    matrix nought one nought nought nought minus_one one nought nought false ∷
    matrix nought one nought nought nought minus_one minus_one nought nought false ∷
    matrix nought one nought minus_one nought nought nought nought one false ∷
    matrix nought one nought minus_one nought nought nought nought minus_one false ∷
    matrix nought nought one one nought nought nought one nought false ∷
    matrix nought nought one one nought nought nought minus_one nought false ∷
    matrix nought nought one nought one nought one nought nought false ∷
    matrix nought nought one nought one nought minus_one nought nought false ∷
    matrix nought nought one nought minus_one nought one nought nought false ∷
    matrix nought nought one nought minus_one nought minus_one nought nought false ∷
    matrix nought nought one minus_one nought nought nought one nought false ∷
    matrix nought nought one minus_one nought nought nought minus_one nought false ∷
    matrix nought nought minus_one one nought nought nought one nought false ∷
    matrix nought nought minus_one one nought nought nought minus_one nought false ∷
    matrix nought nought minus_one nought one nought one nought nought false ∷
    matrix nought nought minus_one nought one nought minus_one nought nought false ∷
    matrix nought nought minus_one nought minus_one nought one nought nought false ∷
    matrix nought nought minus_one nought minus_one nought minus_one nought nought false ∷
    matrix nought nought minus_one minus_one nought nought nought one nought false ∷
    matrix nought nought minus_one minus_one nought nought nought minus_one nought false ∷
    matrix nought minus_one nought one nought nought nought nought one false ∷
    matrix nought minus_one nought one nought nought nought nought minus_one false ∷
    matrix nought minus_one nought nought nought one one nought nought false ∷
    matrix nought minus_one nought nought nought one minus_one nought nought false ∷
    matrix nought minus_one nought nought nought minus_one one nought nought false ∷
    matrix nought minus_one nought nought nought minus_one minus_one nought nought false ∷
    matrix nought minus_one nought minus_one nought nought nought nought one false ∷
    matrix nought minus_one nought minus_one nought nought nought nought minus_one false ∷
    matrix minus_half h nought h half nought nought nought one false ∷
    matrix minus_half h nought h half nought nought nought minus_one false ∷
    matrix minus_half h nought minus_h minus_half nought nought nought one false ∷
    matrix minus_half h nought minus_h minus_half nought nought nought minus_one false ∷
    matrix minus_half minus_h nought h minus_half nought nought nought one false ∷
    matrix minus_half minus_h nought h minus_half nought nought nought minus_one false ∷
    matrix minus_half minus_h nought minus_h half nought nought nought one false ∷
    matrix minus_half minus_h nought minus_h half nought nought nought minus_one false ∷
    matrix minus_one nought nought nought one nought nought nought one false ∷
    matrix minus_one nought nought nought one nought nought nought minus_one false ∷
    matrix minus_one nought nought nought nought one nought one nought false ∷
    matrix minus_one nought nought nought nought one nought minus_one nought false ∷
    matrix minus_one nought nought nought nought minus_one nought one nought false ∷
    matrix minus_one nought nought nought nought minus_one nought minus_one nought false ∷
    matrix minus_one nought nought nought minus_one nought nought nought one false ∷
    matrix minus_one nought nought nought minus_one nought nought nought minus_one false ∷ []

abbrev pub nth : List Operation → ℕ → Operation
nth [] k = identity
nth (l ∷ ls) zero = l
nth (l ∷ ls) (suc k) = nth ls k

abbrev pub marked : Operation → Bool → Operation
marked g p = record { row_1 = g.row_1; row_2 = g.row_2; row_3 = g.row_3; primed = p }

-- the operation with matrix n of the list and the mark p
unfoldable pub operation_at : ℕ → Bool → Operation
operation_at n p = marked (nth matrices n) p

abbrev pub same_row : Row → Row → Bool
same_row r s = cond (same_entry r.first s.first) (cond (same_entry r.second s.second) (same_entry r.third s.third)
    false) false

abbrev pub same_matrix : Operation → Operation → Bool
same_matrix g k = cond (same_row g.row_1 k.row_1) (cond (same_row g.row_2 k.row_2) (same_row g.row_3 k.row_3) false)
    false

abbrev pub find_matrix : List Operation → Operation → ℕ
find_matrix [] g = 0
find_matrix (k ∷ ks) g = cond (same_matrix k g) 0 (1 + find_matrix ks g)

-- the place of the matrix in the list
unfoldable pub matrix_place : Operation → ℕ
matrix_place g = find_matrix matrices g

-- the place of an operation among all 128 in their order
abbrev pub place : Operation → ℕ
place g = 2 * matrix_place g + cond g.primed 1 0

-- the operation at a place in the order of all 128
unfoldable pub nth_operation : ℕ → Operation
nth_operation k = operation_at (k / 2) (nat_eq (k % 2) 1)
