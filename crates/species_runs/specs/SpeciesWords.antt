-- What the program answers to its words.
--   HasForm         they are two
--   AreSpelled, AreAsked    no word is too long, and they spell two group symbols; these are accepted
--   IsFirstFaulty   the first word that spells no group symbol, and the place in it
--   RefusesPair     the refusals of two accepted symbols
--   RefusesAs, Refuses    a refusal of this name, at this word and column; the first refusal that applies
--   IsSpeciesText, Answers    the answer
--   usage_text, IsSpeciesAnswer    how the program is used; the text that it writes
-- Source: this project's own.
use Rattle.std.specs.Prelude.{◌≡◌, ◌⊎◌, ℕ, ◌+◌, List, [], ◌∷◌, ◌++◌, codes, get_or, length}
use Rattle.tensor_defs.specs.Prelude.{InGroup, IsAccepted, Operation, AreStates, GroupSymbol}
use Rattle.text_defs.specs.Prelude.{IsGroupText, SpellsGroup, IsFaulty, IsOutside}
use Rattle.tool_runs.specs.Tools.{FirstLong, IsToolText, NoneLong, Words}
use Rattle.tool_runs.specs.declared.refusals.RefusalName.{RefusalName}
use Rattle.tool_runs.specs.declared.refusals.RefusalName.TheVariants as Name
use Rattle.tool_runs.specs.declared.refusals.ToolRefusal.{ToolRefusal}
use Rattle.tool_runs.specs.declared.runs.Kind.{Kind}
use Rattle.species_runs.specs.SpeciesTexts.{IsSpeciesOver, SomeGrows}

abbrev pub HasForm : Words → Type 0
HasForm words = length words ≡ 2

abbrev pub group_word : Words → List ℕ
group_word words = get_or words 0 []

abbrev pub subgroup_word : Words → List ℕ
subgroup_word words = get_or words 1 []

pub record AreSpelled (words : Words) (g f : GroupSymbol) : Type 0 where
  pub short : NoneLong words
  pub group_is : SpellsGroup (group_word words) g
  pub subgroup_is : SpellsGroup (subgroup_word words) f

pub record AreAsked (words : Words) (g f : GroupSymbol) : Type 0 where
  pub spelled : AreSpelled words g f
  pub group_accepted : IsAccepted g
  pub subgroup_accepted : IsAccepted f

abbrev pub IsFirstFaulty : Words → ℕ → ℕ → Type 0
IsFirstFaulty words number place =
    (IsFaulty IsGroupText (group_word words) place × (number ≡ 1))
    ⊎ (IsGroupText (group_word words) × IsFaulty IsGroupText (subgroup_word words) place × (number ≡ 2))

-- the first of the two symbols that isn't accepted
abbrev pub IsFirstUnaccepted : GroupSymbol → GroupSymbol → ℕ → Type 0
IsFirstUnaccepted g f number = (¬ IsAccepted g × (number ≡ 1)) ⊎ (IsAccepted g × ¬ IsAccepted f × (number ≡ 2))

abbrev pub RefusesPair : GroupSymbol → GroupSymbol → RefusalName → Type 0
RefusesPair g f (Name.NotSub k) = IsOutside g f k
RefusesPair g f Name.TooLarge = ((k : ℕ) → ¬ IsOutside g f k) × SomeGrows (InGroup g) (InGroup f)
RefusesPair g f name = ⊥

abbrev pub RefusesAs : RefusalName → Words → ℕ → ℕ → Type 0
RefusesAs Name.Long words number column = FirstLong words number × (column ≡ 4001)
RefusesAs Name.Syntax words number column =
    NoneLong words × (place : ℕ) × IsFirstFaulty words number place × (column ≡ place + 1)
RefusesAs Name.Primes words number column =
    (g f : GroupSymbol) × AreSpelled words g f × IsFirstUnaccepted g f number × (column ≡ 1)
RefusesAs name words number column =
    (g f : GroupSymbol) × AreAsked words g f × RefusesPair g f name × (number ≡ 2) × (column ≡ 1)

abbrev pub Refuses : Words → ToolRefusal → Type 0
Refuses words r = RefusesAs r.name words r.word r.column

abbrev pub IsSpeciesText : GroupSymbol → GroupSymbol → List ℕ → Type 0
IsSpeciesText g f text =
    (reps : List Operation) × AreStates (InGroup g) (InGroup f) reps × IsSpeciesOver g f (InGroup f) reps text

abbrev pub Answers : Words → List ℕ → Type 0
Answers words text = (g f : GroupSymbol) × AreAsked words g f × IsSpeciesText g f text

abbrev pub usage_text : List ℕ
usage_text = codes "usage: ferroic_species GROUP SUBGROUP" ++ 10 ∷ []

abbrev pub IsSpeciesAnswer : Words → Kind → List ℕ → Type 0
IsSpeciesAnswer = IsToolText HasForm Refuses Answers usage_text
