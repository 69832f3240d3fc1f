-- What the program says to its words.
--   HasForm         a limiting group and a Jahn symbol
--   IsAsked         the two that the words spell
--   IsFirstFaulty   the first word that spells none, and where it goes wrong
--   Refuses         the first refusal that applies
--   Answers         the text of the table that fits
--   usage_text      how the program is used
--   IsCurieAnswer   the one text that is defined for these words
-- Source: this project's own.
use Rattle.std.specs.Prelude.{◌≡◌, ◌⊎◌, ℕ, ◌+◌, ◌<◌, ◌≤◌, List, [], ◌∷◌, ◌++◌, codes, get_or, length}
use Rattle.tensor_defs.specs.Prelude.{JahnSymbol, rank, Table}
use Rattle.text_defs.specs.Prelude.{IsJahnText, SpellsJahn, IsFaulty}
use Rattle.limiting_defs.specs.declared.Curie.{Curie}
use Rattle.limiting_groups.specs.CurieTables.{CurieGrows, FitsCurie}
use Rattle.tool_runs.specs.Tools.{FirstLong, IsToolText, NoneLong, Words}
use Rattle.tool_runs.specs.declared.refusals.RefusalName.{RefusalName}
use Rattle.tool_runs.specs.declared.refusals.RefusalName.TheVariants as Name
use Rattle.tool_runs.specs.declared.refusals.ToolRefusal.{ToolRefusal}
use Rattle.tool_runs.specs.declared.runs.Kind.{Kind}
use Rattle.curie_runs.specs.CurieTexts.{IsCurieText, curie_text, table_answer}

abbrev pub HasForm : Words → Type 0
HasForm words = length words ≡ 2

abbrev pub group_word : Words → List ℕ
group_word words = get_or words 0 []

abbrev pub jahn_word : Words → List ℕ
jahn_word words = get_or words 1 []

pub record IsAsked (words : Words) (group : Curie) (j : JahnSymbol) : Type 0 where
  pub short : NoneLong words
  pub group_is : group_word words ≡ curie_text group
  pub symbol_is : SpellsJahn (jahn_word words) j

-- a word that no other one of these stands before, and the place in it
abbrev pub IsFirstFaulty : Words → ℕ → ℕ → Type 0
IsFirstFaulty words number place =
    (IsFaulty IsCurieText (group_word words) place × (number ≡ 1))
    ⊎ (IsCurieText (group_word words) × IsFaulty IsJahnText (jahn_word words) place × (number ≡ 2))

abbrev pub RefusesAs : RefusalName → Words → ℕ → ℕ → Type 0
RefusesAs Name.Long words number column = FirstLong words number × (column ≡ 4001)
RefusesAs Name.Syntax words number column =
    NoneLong words × (place : ℕ) × IsFirstFaulty words number place × (column ≡ place + 1)
RefusesAs Name.Rank words number column =
    (group : Curie) × (j : JahnSymbol) × IsAsked words group j × (6 < rank j) × (number ≡ 2) × (column ≡ 1)
RefusesAs Name.TooLarge words number column =
    (group : Curie) × (j : JahnSymbol) × IsAsked words group j × (rank j ≤ 6) × CurieGrows j group × (number ≡ 2) × (column ≡ 1)
RefusesAs name words number column = ⊥

abbrev pub Refuses : Words → ToolRefusal → Type 0
Refuses words r = RefusesAs r.name words r.word r.column

abbrev pub Answers : Words → List ℕ → Type 0
Answers words text =
    (group : Curie) × (j : JahnSymbol) × IsAsked words group j
    × ((a : Table) × FitsCurie j group a × (text ≡ table_answer group j a))

abbrev pub usage_text : List ℕ
usage_text = codes "usage: curie_axis GROUP JAHN" ++ 10 ∷ []

abbrev pub IsCurieAnswer : Words → Kind → List ℕ → Type 0
IsCurieAnswer = IsToolText HasForm Refuses Answers usage_text
