-- Matrices of numbers, and their action on component lists.
--   Matrix          the number at a row and a column
--   SameEntries     two matrices with the same entries
--   times, product_of    rows by columns; the product of a list from left to right, the empty list giving the identity
--   entries_product      R(i1,j1) · .. · R(ir,jr)
--   axial_factor, act_by    det R for e; the component list carried by a matrix, with no time reversal
-- Source: facts of matrices; International Tables D 1.1.
use Rattle.std.specs.Prelude.{◌≡◌, Bool, true, false, List, [], ◌∷◌, length}
use Rattle.tensor_defs.specs.Prelude.{Number, mul, num_zero, num_one, Axis, sum_axes, value, determinant, identity, Index, Tensor, Marks, sum_indices}

abbrev pub Matrix : Type 0
Matrix = Axis → Axis → Number

abbrev pub SameEntries : Matrix → Matrix → Type 0
SameEntries a b = (i j : Axis) → a i j ≡ b i j

-- rows by columns
abbrev pub times : Matrix → Matrix → Matrix
times a b i j = sum_axes (λ m. mul (a i m) (b m j))

-- the product of a list, from left to right
abbrev pub product_of : List Matrix → Matrix
product_of [] = value identity
product_of (a ∷ rest) = times a (product_of rest)

-- R(i1,j1) · .. · R(ir,jr)
abbrev pub entries_product : Matrix → Index → Index → Number
entries_product a [] [] = num_one
entries_product a [] (j ∷ js) = num_zero
entries_product a (i ∷ is) [] = num_zero
entries_product a (i ∷ is) (j ∷ js) = mul (a i j) (entries_product a is js)

-- det R where the symbol has e
abbrev pub axial_factor : Bool → Matrix → Number
axial_factor true a = determinant a
axial_factor false a = num_one

-- T'(i1..ir) = factor · sum over j1..jr of R(i1,j1) · .. · R(ir,jr) · T(j1..jr)
unfoldable pub act_by : Marks → Matrix → Tensor → Tensor
act_by m a t is =
    mul (axial_factor m.axial a) (sum_indices (length is) (λ js. mul (entries_product a is js) (t js)))
