-- The texts of limiting groups and of their tables.
--   curie_text, IsCurieText    the text of a group; the text of some group
--   curie_groups, curie_at     the five groups, and the group at a place of their list
--   ReadsCurie      the group whose text the word is; or else where the word goes wrong
--   table_answer    the header and the component lines of a table
-- Source: this project's own.
use Rattle.std.specs.Prelude.{◌≡◌, ℕ, List, [], ◌∷◌, ◌++◌, ◌^◌, codes, get_or, length, Result, Ok, Err}
use Rattle.std.specs.Fmt.{decimal}
use Rattle.tensor_defs.specs.Prelude.{JahnSymbol, rank, Table}
use Rattle.text_defs.specs.Prelude.{line_of, table_text, jahn_text, IsFaulty}
use Rattle.text_defs.specs.declared.Fault.{Fault}
use Rattle.limiting_defs.specs.declared.Curie.{Curie}
use Rattle.limiting_defs.specs.declared.Curie.TheVariants.{Inf, InfM, Inf2, InfOverM, InfOverMM}

abbrev pub curie_text : Curie → List ℕ
curie_text Inf = codes "inf"
curie_text InfM = codes "infm"
curie_text Inf2 = codes "inf2"
curie_text InfOverM = codes "inf/m"
curie_text InfOverMM = codes "inf/mm"

abbrev pub IsCurieText : List ℕ → Type 0
IsCurieText word = (group : Curie) × (word ≡ curie_text group)

abbrev pub curie_groups : List Curie
curie_groups = Inf ∷ InfM ∷ Inf2 ∷ InfOverM ∷ InfOverMM ∷ []

unfoldable pub curie_at : ℕ → Curie
curie_at place = get_or curie_groups place InfOverMM

abbrev pub ReadsCurie : List ℕ → Result Curie Fault → Type 0
ReadsCurie word (Ok group) = word ≡ curie_text group
ReadsCurie word (Err f) = IsFaulty IsCurieText word f.place

abbrev pub table_answer : Curie → JahnSymbol → Table → List ℕ
table_answer group j a =
    line_of (codes "curie" ∷ curie_text group ∷ jahn_text j ∷ codes "free" ∷ decimal (length a.free) ∷ codes "of"
    ∷ decimal (3 ^ rank j) ∷ [])
    ++ table_text (rank j) a
