-- Programs that answer the words of their command line with one text.
--   longest_word    the number of bytes that a word may have
--   FirstLong       the number, counted from 1, of the first word that has more
--   NoneLong        no word has more
--   name_text, refusal_text    the name of a refusal; error, the number of a word, a column counted from 1, and the name
--   IsToolText      the one text that is defined for these words: the answer, the first refusal, or the usage
--   Ends            what was written, by the end of a run
--   Leaves          what a run leaves: nothing for want of memory, else the defined text or a front of it
-- What form the words have, which refusals apply, the answers and the usage text are each program's own.
-- Source: this project's own.
use Rattle.std.specs.Prelude.{◌≡◌, ◌⊎◌, ℕ, ◌+◌, ◌<◌, ◌≤◌, List, [], ◌∷◌, ◌++◌, length, codes}
use Rattle.std.specs.Fmt.{decimal}
use Rattle.std.specs.declared.option.Option.{Option}
use Rattle.tensor_defs.specs.Lists.{Each}
use Rattle.text_defs.specs.AnswerTexts.{line_of}
use Rattle.tensor_ports.specs.Bytes.{Grows, GrowsInPart}
use Rattle.tensor_ports.specs.declared.ends.ToolEnd.{ToolEnd}
use Rattle.tensor_ports.specs.declared.ends.ToolEnd.TheVariants.{Answered, Refused, WriteFault, NoMemory}
use Rattle.tool_runs.specs.declared.refusals.RefusalName.{RefusalName}
use Rattle.tool_runs.specs.declared.refusals.RefusalName.TheVariants as Name
use Rattle.tool_runs.specs.declared.refusals.ToolRefusal.{ToolRefusal}
use Rattle.tool_runs.specs.declared.runs.Kind.{Kind}
use Rattle.tool_runs.specs.declared.runs.Kind.TheVariants.{Answer, Refusal, Usage}

abbrev pub Words : Type 0
Words = List (List ℕ)

abbrev pub longest_word : ℕ
longest_word = 4000

-- the first of these words is word k
abbrev pub FirstLongFrom : ℕ → Words → ℕ → Type 0
FirstLongFrom k [] n = ⊥
FirstLongFrom k (w ∷ ws) n =
    ((longest_word < length w) × (n ≡ k)) ⊎ ((length w ≤ longest_word) × FirstLongFrom (k + 1) ws n)

abbrev pub FirstLong : Words → ℕ → Type 0
FirstLong words n = FirstLongFrom 1 words n

abbrev pub NoneLong : Words → Type 0
NoneLong words = Each (λ w. length w ≤ longest_word) words

abbrev pub name_text : RefusalName → List ℕ
name_text Name.Long = codes "long"
name_text Name.Syntax = codes "syntax"
name_text Name.Primes = codes "primes"
name_text Name.Rank = codes "rank"
name_text (Name.NotSub first) = codes "notsub " ++ decimal first
name_text Name.TooLarge = codes "toolarge"
name_text Name.Twice = codes "twice"
name_text Name.NoName = codes "noname"

abbrev pub refusal_text : ToolRefusal → List ℕ
refusal_text r = line_of (codes "error" ∷ decimal r.word ∷ decimal r.column ∷ name_text r.name ∷ [])

abbrev pub IsToolText :
    (Words → Type 0) → (Words → ToolRefusal → Type 0) → (Words → List ℕ → Type 0) → List ℕ → Words → Kind → List ℕ → Type 0
IsToolText HasForm Refuses Answers usage words Answer text =
    HasForm words × ((r : ToolRefusal) → Refuses words r → ⊥) × Answers words text
IsToolText HasForm Refuses Answers usage words Refusal text =
    HasForm words × (r : ToolRefusal) × Refuses words r × (text ≡ refusal_text r)
IsToolText HasForm Refuses Answers usage words Usage text = (HasForm words → ⊥) × (text ≡ usage)

-- what was written grew by the text, which is of the kind that the end tells, or, after a write fault, by a front of it
abbrev pub Ends : ToolEnd → Kind → List ℕ → Option (List ℕ) → Option (List ℕ) → Type 0
Ends Answered kind text before now = (kind ≡ Answer) × Grows before now text
Ends Refused kind text before now = (kind ≡ Refusal) × Grows before now text
Ends ToolEnd.Usage kind text before now = (kind ≡ Usage) × Grows before now text
Ends WriteFault kind text before now = GrowsInPart before now text
Ends NoMemory kind text before now = ⊥

-- Text is the program's own `IsToolText` on its words
abbrev pub Leaves : (Kind → List ℕ → Type 0) → ToolEnd → Option (List ℕ) → Option (List ℕ) → Type 0
Leaves Text end before now =
    ((end ≡ NoMemory) × (now ≡ before))
    ⊎ ((kind : Kind) × (text : List ℕ) × Text kind text × Ends end kind text before now)
