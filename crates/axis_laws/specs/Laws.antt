-- Laws of the tables on the hexagonal axes, as the contracts of src/ cite them.
--   IsClosed        the members of a list of operations hold their products
--   SolvesWords     zero at dropped components, elsewhere the sign times the representative, and the rows of these words
--                   add up to zero
--   SolvesRows      the same for the words in use
--   RowsDecideInvariance    under a framed group that isn't all plain, the invariant tensors are exactly these lists
--   OneElimination  the unknowns and the rows are told by the symbol, the group and the order
-- Source: a rotation about z multiplies the sum of a word by a unit number; International Tables D 1.1 for invariance.
use Rattle.std.specs.Prelude.{◌≡◌, ℕ, Bool, List, [], length, filter, get_or, Contains, ◌↔◌, Some, None}
use Rattle.tensor_defs.specs.Prelude.{AreRepresentatives, AreUnknowns, Carrier, rows_of, AllOf, IsFramed, IsPlain, JahnSymbol, IsInvariant, rank, Number, mul}
use Rattle.tensor_defs.specs.Prelude.{num_zero, IsProduct, Operation, IsOrder, Index, Tensor, Word, is_used, words}
use Rattle.sparse_rows.specs.Solutions.{Solve}

pub record IsClosed (hs : List Operation) : Type 0 where
  pub closed : (g h k : Operation) → Contains hs g → Contains hs h → IsProduct g h k → Contains hs k

pub record SolvesWords (r : ℕ) (rep : Carrier) (us : List Index) (ws : List Word) (t : Tensor) : Type 0 where
  pub none : (c : Index) → length c ≡ r → rep c ≡ None → t c ≡ num_zero
  pub some : (c d : Index) (s : Number) → length c ≡ r → rep c ≡ Some (d, s) → t c ≡ mul s (t d)
  pub rows : Solve (length us) (λ k. t (get_or us k [])) (rows_of rep r us ws)

abbrev pub SolvesRows : JahnSymbol → Carrier → List Index → Tensor → Type 0
SolvesRows j rep us t = SolvesWords (rank j) rep us (filter is_used (words (rank j))) t

abbrev pub RowsDecideInvariance : Type 0
RowsDecideInvariance =
    (j : JahnSymbol) (hs : List Operation) (before : Index → Index → Bool) (rep : Carrier) (us : List Index) →
    IsOrder (rank j) before → IsClosed hs → IsFramed (λ g. Contains hs g) → ¬ AllOf (λ g. Contains hs g) IsPlain →
    AreRepresentatives j (λ g. Contains hs g) before rep → AreUnknowns (rank j) before rep us →
    (t : Tensor) → IsInvariant j (λ g. Contains hs g) t ↔ SolvesRows j rep us t

abbrev pub OneElimination : Type 0
OneElimination =
    (j : JahnSymbol) (hs : List Operation) (before : Index → Index → Bool) (rep other : Carrier)
    (us vs : List Index) → IsOrder (rank j) before →
    AreRepresentatives j (λ g. Contains hs g) before rep → AreRepresentatives j (λ g. Contains hs g) before other →
    AreUnknowns (rank j) before rep us → AreUnknowns (rank j) before other vs → (ws : List Word) →
    (us ≡ vs) × (rows_of rep (rank j) us ws ≡ rows_of other (rank j) vs ws)
