-- What the program says to its words.
--   HasForm         two words or more
--   group_word, jahn_word, later_words    the first word, the second, and those behind them
--   IsAsked         the group and the tensor's symbol that the first two words spell
--   IsFit           and they are accepted, and of a rank up to 6
--   IsTask          the elements of the group, and the numbers that the later words give, each component once
--   Grows           the check or the search for the stabiliser meets a number past the limit
--   RefusesGiven    the first refusal that applies to what the later words give
--   Refuses         the first refusal that applies: long; syntax of the first word, then of the second; primes; rank; syntax of
--                   the first faulty later word; twice; toolarge
--   Answers         the two lines of the tensor that the words give
--   usage_text      how the program is used
--   IsCheckAnswer   the one text that is defined for these words
-- Source: this project's own.
use Rattle.std.specs.Prelude.{◌≡◌, ◌⊎◌, ℕ, ◌+◌, ◌<◌, ◌≤◌, List, [], ◌∷◌, ◌++◌, codes, drop, get_or, length}
use Rattle.tensor_defs.specs.Prelude.{InGroup, IsAccepted, JahnSymbol, rank, IsListing, Operation, comes_before, GroupSymbol, Tensor}
use Rattle.text_defs.specs.Prelude.{IsGroupText, SpellsGroup, IsJahnText, SpellsJahn, IsFaulty}
use Rattle.given_tensors.specs.Stabilisers.{StabiliserGrows}
use Rattle.given_tensors.specs.Verdicts.{CheckGrows}
use Rattle.given_tensors.specs.declared.wholes.Whole.{Whole}
use Rattle.tool_runs.specs.Tools.{FirstLong, IsToolText, NoneLong, Words}
use Rattle.tool_runs.specs.declared.refusals.RefusalName.{RefusalName}
use Rattle.tool_runs.specs.declared.refusals.RefusalName.TheVariants as Name
use Rattle.tool_runs.specs.declared.refusals.ToolRefusal.{ToolRefusal}
use Rattle.tool_runs.specs.declared.runs.Kind.{Kind}
use Rattle.check_runs.specs.CheckTexts.{IsCheckText, IsWholeOf}
use Rattle.check_runs.specs.Settings.{AreOnce, AreSettings, Given, IsFirstFaulty, IsFirstTwice, given_tensor}

abbrev pub HasForm : Words → Type 0
HasForm words = 2 ≤ length words

abbrev pub group_word : Words → List ℕ
group_word words = get_or words 0 []

abbrev pub jahn_word : Words → List ℕ
jahn_word words = get_or words 1 []

abbrev pub later_words : Words → Words
later_words words = drop 2 words

pub record IsAsked (words : Words) (g : GroupSymbol) (j : JahnSymbol) : Type 0 where
  pub short : NoneLong words
  pub group_is : SpellsGroup (group_word words) g
  pub symbol_is : SpellsJahn (jahn_word words) j

pub record IsFit (words : Words) (g : GroupSymbol) (j : JahnSymbol) : Type 0 where
  pub asked : IsAsked words g j
  pub accepted : IsAccepted g
  pub small : rank j ≤ 6

pub record IsTask (g : GroupSymbol) (j : JahnSymbol) (later : Words) (hs : List Operation) (ps : List Given) : Type 0 where
  pub elements : IsListing comes_before (InGroup g) hs
  pub settings : AreSettings (rank j) later ps
  pub once : AreOnce ps

abbrev pub Grows : JahnSymbol → List Operation → Tensor → Type 0
Grows j hs t =
    CheckGrows j hs (rank j) t ⊎ ((whole : Whole) × IsWholeOf hs whole × StabiliserGrows whole j.marks (rank j) t)

-- of a group and a tensor's symbol that are fit
abbrev pub RefusesGiven : RefusalName → GroupSymbol → JahnSymbol → Words → ℕ → ℕ → Type 0
RefusesGiven Name.Syntax g j later number column =
    (k : ℕ) × (place : ℕ) × IsFirstFaulty (rank j) later k place × (number ≡ k + 3) × (column ≡ place + 1)
RefusesGiven Name.Twice g j later number column =
    (ps : List Given) × (k : ℕ) × AreSettings (rank j) later ps × IsFirstTwice ps k × (number ≡ k + 3) × (column ≡ 1)
RefusesGiven Name.TooLarge g j later number column =
    (hs : List Operation) × (ps : List Given) × IsTask g j later hs ps × Grows j hs (given_tensor ps) × (number ≡ 2) × (column ≡ 1)
RefusesGiven name g j later number column = ⊥

abbrev pub IsRefusedGiven : RefusalName → Words → ℕ → ℕ → Type 0
IsRefusedGiven name words number column =
    (g : GroupSymbol) × (j : JahnSymbol) × IsFit words g j × RefusesGiven name g j (later_words words) number column

abbrev pub IsFaultySymbol : Words → ℕ → ℕ → Type 0
IsFaultySymbol words number place =
    (IsFaulty IsGroupText (group_word words) place × (number ≡ 1))
    ⊎ (IsGroupText (group_word words) × IsFaulty IsJahnText (jahn_word words) place × (number ≡ 2))

abbrev pub RefusesAs : RefusalName → Words → ℕ → ℕ → Type 0
RefusesAs Name.Long words number column = FirstLong words number × (column ≡ 4001)
RefusesAs Name.Syntax words number column =
    (NoneLong words × (place : ℕ) × IsFaultySymbol words number place × (column ≡ place + 1))
    ⊎ IsRefusedGiven Name.Syntax words number column
RefusesAs Name.Primes words number column =
    (g : GroupSymbol) × (j : JahnSymbol) × IsAsked words g j × (¬ IsAccepted g) × (number ≡ 1) × (column ≡ 1)
RefusesAs Name.Rank words number column =
    (g : GroupSymbol) × (j : JahnSymbol) × IsAsked words g j × IsAccepted g × (6 < rank j) × (number ≡ 2) × (column ≡ 1)
RefusesAs name words number column = IsRefusedGiven name words number column

abbrev pub Refuses : Words → ToolRefusal → Type 0
Refuses words r = RefusesAs r.name words r.word r.column

-- the answer of a group and a tensor's symbol that are fit
abbrev pub AnswersGiven : GroupSymbol → JahnSymbol → Words → List ℕ → Type 0
AnswersGiven g j later text =
    (hs : List Operation) × (ps : List Given) × IsTask g j later hs ps × IsCheckText g j hs (given_tensor ps) text

abbrev pub Answers : Words → List ℕ → Type 0
Answers words text =
    (g : GroupSymbol) × (j : JahnSymbol) × IsFit words g j × AnswersGiven g j (later_words words) text

abbrev pub usage_text : List ℕ
usage_text = codes "usage: tensor_check GROUP JAHN [NAME=NUMBER ...]" ++ 10 ∷ []

abbrev pub IsCheckAnswer : Words → Kind → List ℕ → Type 0
IsCheckAnswer = IsToolText HasForm Refuses Answers usage_text
