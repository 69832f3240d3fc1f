-- Laws of the limiting groups about z, as the contracts of src/ cite them.
--   TurningVanish     the words vanish whose count of + isn't their count of -
--   TurnsDecide       a component list is unchanged by all rational rotations about z exactly where they do
--   SolvesTurningRows, TurningRowsDecide    the tensors that a limiting group leaves unchanged are exactly the lists that
--                     are zero at dropped components, elsewhere the sign times the representative, and on which the rows
--                     of these words add up to zero
--   DiagonalsAccepted    the symbols of the diagonal members are accepted
-- Source: a rotation about z multiplies the sum of a word by a unit number; International Tables D 1.1 for invariance.
use Rattle.std.specs.Prelude.{◌≡◌, ◌≢◌, ◌↔◌, ℕ, Bool, List, length, filter}
use Rattle.tensor_defs.specs.Prelude.{AreRepresentatives, AreUnknowns, Carrier, InGroup, IsAccepted, JahnSymbol, rank, num_zero, IsOrder, Agree, Index, Marks}
use Rattle.tensor_defs.specs.Prelude.{Tensor, Word, minus_count, plus_count, words}
use Rattle.tensor_laws.specs.WordSums.{word_sum}
use Rattle.axis_laws.specs.Laws.{SolvesWords}
use Rattle.constraint_rows.specs.Choices.{is_turning}
use Rattle.limiting_defs.specs.Matrices.{Matrix, act_by}
use Rattle.limiting_defs.specs.Limiting.{IsCurieInvariant, IsRotation, diagonal_symbol}
use Rattle.limiting_defs.specs.declared.Curie.{Curie}

abbrev pub TurningVanish : ℕ → Tensor → Type 0
TurningVanish r t =
    (w : Word) → length w ≡ r → plus_count w ≢ minus_count w → word_sum w t ≡ record { re = num_zero; im = num_zero }

abbrev pub TurnsDecide : Type 0
TurnsDecide =
    (m : Marks) (r : ℕ) (t : Tensor) →
    ((a : Matrix) → IsRotation a → Agree r (act_by m a t) t) ↔ TurningVanish r t

abbrev pub SolvesTurningRows : JahnSymbol → Carrier → List Index → Tensor → Type 0
SolvesTurningRows j rep us t = SolvesWords (rank j) rep us (filter is_turning (words (rank j))) t

abbrev pub TurningRowsDecide : Type 0
TurningRowsDecide =
    (group : Curie) (j : JahnSymbol) (before : Index → Index → Bool) (rep : Carrier) (us : List Index) →
    IsOrder (rank j) before → AreRepresentatives j (InGroup (diagonal_symbol group)) before rep →
    AreUnknowns (rank j) before rep us → (t : Tensor) → IsCurieInvariant j group t ↔ SolvesTurningRows j rep us t

abbrev pub DiagonalsAccepted : Type 0
DiagonalsAccepted = (group : Curie) → IsAccepted (diagonal_symbol group)
