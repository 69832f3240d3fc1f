-- What the program answers that turns the name of a group symbol from one dialect into another.
--   dialect_word     the word of a dialect
--   AsksFor          the words ask for the text of a symbol in a dialect
--   Refuses          the first refusal that applies: long, then syntax, primes and noname
--   AnswersSymbol, Answers    the text in the dialect, and LF
--   usage_text       what is written for other words
--   IsDialectRun     the one text that is defined for the words
-- Source: this project's own.
use Rattle.std.specs.Prelude.{◌≡◌, ◌≢◌, ℕ, ◌+◌, List, [], ◌∷◌, ◌++◌, codes, Option, Some, None}
use Rattle.tensor_defs.specs.Prelude.{GroupSymbol, IsAccepted}
use Rattle.text_defs.specs.Languages.{IsFaulty}
use Rattle.dialects.specs.declared.write.Dialect.{Dialect}
use Rattle.dialects.specs.declared.write.Dialect.TheVariants.{Short, Long, Schoenflies}
use Rattle.dialects.specs.Naming.{Names, IsDialectText}
use Rattle.dialects.specs.Answers.{IsUnaccepted, IsDialectTextOf, HasText}
use Rattle.tool_runs.specs.Tools.{Words, FirstLong, NoneLong, IsToolText}
use Rattle.tool_runs.specs.declared.refusals.RefusalName.{RefusalName}
use Rattle.tool_runs.specs.declared.refusals.RefusalName.TheVariants as name
use Rattle.tool_runs.specs.declared.refusals.ToolRefusal.{ToolRefusal}
use Rattle.tool_runs.specs.declared.runs.Kind.{Kind}

abbrev pub dialect_word : Dialect → List ℕ
dialect_word Short = codes "short"
dialect_word Long = codes "long"
dialect_word Schoenflies = codes "schoenflies"

abbrev pub AsksFor : Words → Dialect → List ℕ → Type 0
AsksFor words to symbol = words ≡ dialect_word to ∷ symbol ∷ []

abbrev pub HasForm : Words → Type 0
HasForm words = (to : Dialect) × (symbol : List ℕ) × AsksFor words to symbol

-- the word names an accepted symbol
abbrev pub NamesAccepted : List ℕ → GroupSymbol → Type 0
NamesAccepted word t = Names word t × IsAccepted t

-- the second word of at most 4000 bytes is refused by this name, at the column
abbrev pub RefusesSymbol : Dialect → List ℕ → RefusalName → ℕ → Type 0
RefusesSymbol to symbol name.Syntax column = (place : ℕ) × IsFaulty IsDialectText symbol place × (column ≡ 1 + place)
RefusesSymbol to symbol name.Primes column = IsUnaccepted symbol × (column ≡ 1)
RefusesSymbol to symbol name.NoName column = (t : GroupSymbol) × NamesAccepted symbol t × (¬ HasText to t) × (column ≡ 1)
RefusesSymbol to symbol other column = ⊥

abbrev pub RefusesWords : Words → ℕ → RefusalName → ℕ → Type 0
RefusesWords words word name.Long column = FirstLong words word × (column ≡ 4001)
RefusesWords words word other column =
    NoneLong words × (to : Dialect) × (symbol : List ℕ) × AsksFor words to symbol
    × RefusesSymbol to symbol other column × (word ≡ 2)

abbrev pub Refuses : Words → ToolRefusal → Type 0
Refuses words r = RefusesWords words r.word r.name r.column

-- the line that answers the second word
abbrev pub AnswersSymbol : Dialect → List ℕ → List ℕ → Type 0
AnswersSymbol to symbol text =
    (t : GroupSymbol) × (name : List ℕ) × NamesAccepted symbol t × IsDialectTextOf to t name × (text ≡ name ++ 10 ∷ [])

abbrev pub Answers : Words → List ℕ → Type 0
Answers words text = (to : Dialect) × (symbol : List ℕ) × AsksFor words to symbol × AnswersSymbol to symbol text

abbrev pub usage_text : List ℕ
usage_text = codes "usage: symbol_dialect short|long|schoenflies SYMBOL" ++ 10 ∷ []

abbrev pub IsDialectRun : Words → Kind → List ℕ → Type 0
IsDialectRun words kind text = IsToolText HasForm Refuses Answers usage_text words kind text

-- ---- what the functions of the program tell
abbrev pub TellsDialect : List ℕ → Option Dialect → Type 0
TellsDialect word (Some to) = word ≡ dialect_word to
TellsDialect word None = (to : Dialect) → word ≢ dialect_word to
