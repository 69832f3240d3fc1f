-- Tables of the tensors that limiting groups leave unchanged.
--   FitsCurie       the table runs through exactly these tensors, each once
--   CurieGrows      the elimination grows on the rows of the words whose counts of + and - differ, the unknowns being the
--                   components that are their own representatives under the diagonal members
-- Source: the definition of a parametrised linear space; the elimination is this project's own.
use Rattle.std.specs.Prelude.{List, [], filter}
use Rattle.tensor_defs.specs.Prelude.{AreRepresentatives, AreUnknowns, Carrier, GrowsFrom, rows_of, InGroup, JahnSymbol, rank, index_before, Table, Index}
use Rattle.tensor_defs.specs.Prelude.{words}
use Rattle.constraint_rows.specs.Choices.{is_turning}
use Rattle.reduced_form.specs.Solving.{FitsSet}
use Rattle.limiting_defs.specs.Limiting.{IsCurieInvariant, diagonal_symbol}
use Rattle.limiting_defs.specs.declared.Curie.{Curie}

-- the free components rise in index order, and the terms of each component name no later one
abbrev pub FitsCurie : JahnSymbol → Curie → Table → Type 0
FitsCurie j group a = FitsSet (rank j) (IsCurieInvariant j group) index_before a

abbrev pub CurieGrows : JahnSymbol → Curie → Type 0
CurieGrows j group =
    (rep : Carrier) × (us : List Index) × AreRepresentatives j (InGroup (diagonal_symbol group)) index_before rep
    × AreUnknowns (rank j) index_before rep us
    × GrowsFrom [] (rows_of rep (rank j) us (filter is_turning (words (rank j))))
