-- Laws over the definitions, as the contracts of src/ cite them.
--   ActsInTurn        a product acts as its factors in turn
--   IdentityActs      the identity changes nothing
--   OneProduct, ProductsAssociate    two operations have at most one product; (g·h)·k is g·(h·k)
--   OneStateTensor    each operation of a domain state carries an invariant list to the same list
--   SameTable, AtMostOneTable    two tables that fit have the same free components and the same terms
--   IndexOrderIsOrder, BlockOrderIsOrder    index order and block order are orders
--   NumbersAreIndices    numbers and indices of components are inverse to each other
--   three_z, WordsDecide, RowsDecide    a component list is unchanged by the threefold rotation about z exactly
--                     where the sums of words, or their even and odd rows, vanish whose count isn't divisible by 3
use Rattle.std.specs.Prelude.{◌≡◌, ℕ, ◌+◌, ◌*◌, ◌%◌, Bool, false, List, length, Contains, ◌↔◌, ◌^◌, ◌<◌}
use Rattle.tensor_defs.specs.Prelude.{JahnSymbol, rank, IsInvariant, Number, mul, num_zero, Operation, IsProduct, identity, matrix, one, nought, minus_half}
use Rattle.tensor_defs.specs.Prelude.{h, minus_h, IsOrder, index_before, block_before, Table, Fits, Agree, sum_indices, Index, Tensor, Marks, act}
use Rattle.tensor_defs.specs.Prelude.{component_number, index_of, Word, even_row, odd_row, plus_count, minus_count}
use Rattle.tensor_laws.specs.WordSums.{Vanish}

-- a product acts as its factors in turn
abbrev pub ActsInTurn : Type 0
ActsInTurn =
    (m : Marks) (g h k : Operation) → IsProduct g h k → (t : Tensor) (is : Index) →
    act m k t is ≡ act m g (act m h t) is

-- the identity changes nothing
abbrev pub IdentityActs : Type 0
IdentityActs = (m : Marks) (t : Tensor) (is : Index) → act m identity t is ≡ t is

-- two operations have at most one product
abbrev pub OneProduct : Type 0
OneProduct = (g h k k' : Operation) → IsProduct g h k → IsProduct g h k' → k ≡ k'

-- (g·h)·k is g·(h·k)
abbrev pub ProductsAssociate : Type 0
ProductsAssociate =
    (g h k a b c : Operation) → IsProduct g h a → IsProduct a k b → IsProduct h k c → IsProduct g c b

-- the operations g·f of a domain state, f in F, carry a list that is invariant under F to one list
abbrev pub OneStateTensor : Type 0
OneStateTensor =
    (j : JahnSymbol) (fs : List Operation) (g f k : Operation) → Contains fs f → IsProduct g f k → (t : Tensor) →
    IsInvariant j (λ h. Contains fs h) t → Agree (rank j) (act j.marks k t) (act j.marks g t)

-- the rotation 3z without time reversal
abbrev pub three_z : Operation
three_z = matrix minus_half minus_h nought h minus_half nought nought nought one false

-- two tables that fit have the same free components, and the same terms at each component
pub record SameTable (j : JahnSymbol) (a b : Table) : Type 0 where
  pub same_free : a.free ≡ b.free
  pub same_terms : (c : Index) → length c ≡ rank j → a.terms c ≡ b.terms c

-- at most one table fits
abbrev pub AtMostOneTable : Type 0
AtMostOneTable =
    (j : JahnSymbol) (hs : List Operation) (before : Index → Index → Bool) → IsOrder (rank j) before → (a b : Table) →
    Fits j (λ g. Contains hs g) before a → Fits j (λ g. Contains hs g) before b → SameTable j a b

abbrev pub IndexOrderIsOrder : Type 0
IndexOrderIsOrder = (r : ℕ) → IsOrder r index_before

abbrev pub BlockOrderIsOrder : Type 0
BlockOrderIsOrder = (r : ℕ) (bs : List ℕ) → IsOrder r (block_before bs)

-- numbers and indices of components are inverse to each other
pub record NumbersAreIndices : Type 0 where
  pub below : (is : Index) → component_number is < 3 ^ length is
  pub of_rank : (r c : ℕ) → length (index_of r c) ≡ r
  pub number : (r c : ℕ) → c < 3 ^ r → component_number (index_of r c) ≡ c
  pub index : (is : Index) → index_of (length is) (component_number is) ≡ is

-- a component list is unchanged by 3z exactly where the sums of all words vanish whose count of + less the count of -
-- isn't divisible by 3
abbrev pub WordsDecide : Type 0
WordsDecide =
    (r : ℕ) (t : Tensor) → Agree r (act (record { axial = false; magnetic = false }) three_z t) t ↔ Vanish r t

-- what a row of a word adds up to on a component list
abbrev pub row_sum : (Word → Index → Number) → Word → Tensor → Number
row_sum row w t = sum_indices (length w) (λ is. mul (row w is) (t is))

-- the same by the even and the odd rows of the words
abbrev pub RowsDecide : Type 0
RowsDecide =
    (r : ℕ) (t : Tensor) → Agree r (act (record { axial = false; magnetic = false }) three_z t) t ↔
    ((w : Word) → length w ≡ r → 0 < (plus_count w + 2 * minus_count w) % 3 →
    (row_sum even_row w t ≡ num_zero) × (row_sum odd_row w t ≡ num_zero))
