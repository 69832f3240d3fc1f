-- The blocks of a symbol that has a Voigt table, and the numbers of its entries.
--   Piece, piece_factor    the factors that such a symbol has
--   TellsPiece      what a factor is, or that it is no such factor
--   sizes_of        how many indices each of its blocks has
--   one_blocks, two_blocks    the blocks of one factor, and of two
--   GivesBlocks     the blocks of a symbol, or that it has no Voigt table
--   radix, entry_count    how many numbers a block has; how many entries there are
--   entry_at, entry_number    the entry of a number, from 0, in their order; the number of an entry
--   numbers_of      the block numbers of an entry of the code
--   pair_component, pair_number    the first two indices of a pair, by their number; the pair of two indices, less 1
--   component_at    the number of an entry's component
--   entry_of        the number of the entry that a component has
--   shear, shears_at    1 for two indices that differ; how many blocks of a component are such pairs
-- Source: International Tables D 1.1 (matrix notation).
use Rattle.std.specs.Prelude.{◌≡◌, ℕ, ◌+◌, ◌-◌, ◌*◌, ◌/◌, ◌%◌, ◌==◌, List, [], ◌∷◌, Option, Some, None, get_or, if◌then◌else◌}
use Rattle.tensor_defs.specs.Jahn as defs
use Rattle.tensor_defs.specs.Voigt.{HasBlocks, HasVoigtShape, VoigtEntry, symmetric_pair, symmetric_pairs, two_pairs, vector}
use Rattle.voigt_table.specs.declared.blocks.Piece.{Piece}
use Rattle.voigt_table.specs.declared.blocks.Piece.TheVariants as piece
use Rattle.voigt_table.specs.declared.entries.Blocks.{Blocks}
use Rattle.voigt_table.specs.declared.entries.Blocks.TheVariants.{Pair, VectorPair, PairVector, TwoPairs}
use Rattle.voigt_table.specs.declared.entry.Entry.{Entry}

-- ---- symbols
abbrev pub piece_factor : Piece → defs.Factor
piece_factor piece.Vector = vector
piece_factor piece.Pair = symmetric_pair
piece_factor piece.TwoPairs = two_pairs
piece_factor piece.PairOfPairs = symmetric_pairs

abbrev pub sizes_of : Blocks → List ℕ
sizes_of Pair = 2 ∷ []
sizes_of VectorPair = 1 ∷ 2 ∷ []
sizes_of PairVector = 2 ∷ 1 ∷ []
sizes_of TwoPairs = 2 ∷ 2 ∷ []

abbrev pub TellsPiece : defs.Factor → Option Piece → Type 0
TellsPiece f None = (p : Piece) → f ≡ piece_factor p → ⊥
TellsPiece f (Some p) = f ≡ piece_factor p

abbrev pub one_blocks : Piece → Option Blocks
one_blocks piece.Vector = None
one_blocks piece.Pair = Some Pair
one_blocks piece.TwoPairs = Some TwoPairs
one_blocks piece.PairOfPairs = Some TwoPairs

abbrev pub two_blocks : Piece → Piece → Option Blocks
two_blocks piece.Vector piece.Pair = Some VectorPair
two_blocks piece.Pair piece.Vector = Some PairVector
two_blocks piece.Pair piece.Pair = Some TwoPairs
two_blocks p q = None

abbrev pub GivesBlocks : List defs.Factor → Option Blocks → Type 0
GivesBlocks fs None = HasVoigtShape fs → ⊥
GivesBlocks fs (Some b) = HasBlocks fs (sizes_of b)

-- ---- entries by their numbers
abbrev pub radix : ℕ → ℕ
radix b = if b == 1 then 3 else 6

abbrev pub entry_count : List ℕ → ℕ
entry_count [] = 1
entry_count (b ∷ bs) = radix b * entry_count bs

abbrev pub entry_at : List ℕ → ℕ → VoigtEntry
entry_at [] k = []
entry_at (b ∷ []) k = (k + 1) ∷ []
entry_at (b ∷ c ∷ bs) k = (k / entry_count (c ∷ bs) + 1) ∷ entry_at (c ∷ bs) (k % entry_count (c ∷ bs))

abbrev pub entry_number : List ℕ → VoigtEntry → ℕ
entry_number (b ∷ bs) (n ∷ ns) = (n - 1) * entry_count bs + entry_number bs ns
entry_number bs ns = 0

abbrev pub numbers_from : Option ℕ → ℕ → VoigtEntry
numbers_from None last = last ∷ []
numbers_from (Some n) last = n ∷ last ∷ []

abbrev pub numbers_of : Entry → VoigtEntry
numbers_of e = numbers_from e.first e.last

-- ---- components of entries
abbrev pub pair_component : ℕ → ℕ
pair_component k = get_or (0 ∷ 4 ∷ 8 ∷ 5 ∷ 2 ∷ 1 ∷ []) k 0

abbrev pub pair_number : ℕ → ℕ
pair_number c = get_or (0 ∷ 5 ∷ 4 ∷ 5 ∷ 1 ∷ 3 ∷ 4 ∷ 3 ∷ 2 ∷ []) c 0

abbrev pub component_at : Blocks → ℕ → ℕ
component_at Pair k = pair_component k
component_at VectorPair k = k / 6 * 9 + pair_component (k % 6)
component_at PairVector k = pair_component (k / 3) * 3 + k % 3
component_at TwoPairs k = pair_component (k / 6) * 9 + pair_component (k % 6)

abbrev pub entry_of : Blocks → ℕ → ℕ
entry_of Pair c = pair_number c
entry_of VectorPair c = c / 9 * 6 + pair_number (c % 9)
entry_of PairVector c = pair_number (c / 3) * 3 + c % 3
entry_of TwoPairs c = pair_number (c / 9) * 6 + pair_number (c % 9)

abbrev pub shear : ℕ → ℕ
shear c = get_or (0 ∷ 1 ∷ 1 ∷ 1 ∷ 0 ∷ 1 ∷ 1 ∷ 1 ∷ 0 ∷ []) c 0

abbrev pub shears_at : Blocks → ℕ → ℕ
shears_at Pair c = shear c
shears_at VectorPair c = shear (c % 9)
shears_at PairVector c = shear (c / 3)
shears_at TwoPairs c = shear (c / 9) + shear (c % 9)
