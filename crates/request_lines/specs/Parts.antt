-- What the readers of the parts of a line answer.
--   WordEnds        the word that begins at a place ends at another: there stands the next separator, or the line ends
--   word_at         the bytes between two places
--   IsWrongFrom     from a place on, the line is no words for the slots, and goes wrong at another
--   GroupTaken, JahnTaken    a symbol at a place, with a space behind it, and the place behind that
--   GroupLast, ListLast, WeightsLast    a symbol, Jahn words or weights, from a place to the end of the line
--   IsCommented     the line begins as a comment of its format does
--   Reads..         what a reader answers: the parts, or the place where the line goes wrong
-- Source: this project's own.
use Rattle.std.specs.Prelude.{◌≡◌, ◌≢◌, ℕ, ◌+◌, ◌-◌, ◌<◌, ◌≤◌, List, [], ◌∷◌, drop, take, length, get_or, Result, Ok, Err}
use Rattle.tensor_defs.specs.declared.Weights.{Weights}
use Rattle.text_defs.specs.declared.Format.{Format}
use Rattle.text_defs.specs.declared.Format.TheVariants.{One, Two}
use Rattle.text_defs.specs.Prelude.{IsFaulty, SpellsGroup, IsJahnText}
use Rattle.text_defs.specs.declared.Fault.{Fault}
use Rattle.request_lines.specs.declared.Named.{Named}
use Rattle.request_lines.specs.declared.Span.{Span}
use Rattle.request_lines.specs.Words.{Slot, GroupSlot, JahnSlot, ListSlot, WeightsSlot, IsWords, IsWeightsText, weights_word}
use Rattle.request_lines.specs.Words.{IsListOf, words_behind}

pub record WordEnds (separator : ℕ) (line : List ℕ) (start end : ℕ) : Type 0 where
  pub forward : start ≤ end
  pub fits : end ≤ length line
  pub none : (k : ℕ) → start ≤ k → k < end → get_or line k 0 ≢ separator
  pub at_separator : end < length line → get_or line end 0 ≡ separator

abbrev pub word_at : List ℕ → ℕ → ℕ → List ℕ
word_at line start end = take (end - start) (drop start line)

pub record IsWrongFrom (line : List ℕ) (start : ℕ) (first : Slot) (others : List Slot) (place : ℕ) : Type 0 where
  pub at : ℕ
  pub place_is : place ≡ start + at
  pub faulty : IsFaulty (IsWords first others) (drop start line) at

pub record GroupTaken (line : List ℕ) (start : ℕ) (g : Named) (next : ℕ) : Type 0 where
  pub start_is : g.start ≡ start
  pub end : ℕ
  pub ends : WordEnds 32 line start end
  pub more : end < length line
  pub next_is : next ≡ end + 1
  pub spells : SpellsGroup (word_at line start end) g.tree

pub record GroupLast (line : List ℕ) (start : ℕ) (g : Named) : Type 0 where
  pub start_is : g.start ≡ start
  pub end : ℕ
  pub ends : WordEnds 32 line start end
  pub all : length line ≤ end
  pub spells : SpellsGroup (word_at line start end) g.tree

pub record JahnTaken (line : List ℕ) (start : ℕ) (j : Span) (next : ℕ) : Type 0 where
  pub start_is : j.start ≡ start
  pub ends : WordEnds 32 line start j.end
  pub more : j.end < length line
  pub next_is : next ≡ j.end + 1
  pub spells : IsJahnText (word_at line start j.end)

pub record ListLast (format : Format) (line : List ℕ) (start : ℕ) (j : Span) : Type 0 where
  pub start_is : j.start ≡ start
  pub ends : WordEnds 32 line start j.end
  pub all : length line ≤ j.end
  pub spells : IsListOf (words_behind format) (word_at line start j.end)

pub record WeightsLast (line : List ℕ) (start : ℕ) (w : Weights) : Type 0 where
  pub end : ℕ
  pub ends : WordEnds 32 line start end
  pub all : length line ≤ end
  pub spells : word_at line start end ≡ weights_word w

abbrev pub ReadsWeights : List ℕ → Result Weights Fault → Type 0
ReadsWeights word (Ok w) = word ≡ weights_word w
ReadsWeights word (Err f) = IsFaulty IsWeightsText word f.place

abbrev pub ReadsGroupThen : List ℕ → ℕ → Result (Named × ℕ) Fault → Type 0
ReadsGroupThen line start (Ok x) = GroupTaken line start x.0 x.1
ReadsGroupThen line start (Err f) = (s : Slot) (slots : List Slot) → IsWrongFrom line start GroupSlot (s ∷ slots) f.place

abbrev pub ReadsLastGroup : List ℕ → ℕ → Result Named Fault → Type 0
ReadsLastGroup line start (Ok g) = GroupLast line start g
ReadsLastGroup line start (Err f) = IsWrongFrom line start GroupSlot [] f.place

abbrev pub ReadsJahnThen : List ℕ → ℕ → Result (Span × ℕ) Fault → Type 0
ReadsJahnThen line start (Ok x) = JahnTaken line start x.0 x.1
ReadsJahnThen line start (Err f) = (s : Slot) (slots : List Slot) → IsWrongFrom line start JahnSlot (s ∷ slots) f.place

abbrev pub ReadsList : Format → List ℕ → Result (Unit {0}) Fault → Type 0
ReadsList format text (Ok x) = IsListOf (words_behind format) text
ReadsList format text (Err f) = IsFaulty (IsListOf (words_behind format)) text f.place

abbrev pub ReadsLastList : Format → List ℕ → ℕ → Result Span Fault → Type 0
ReadsLastList format line start (Ok j) = ListLast format line start j
ReadsLastList format line start (Err f) = IsWrongFrom line start (ListSlot format) [] f.place

abbrev pub ReadsLastWeights : List ℕ → ℕ → Result Weights Fault → Type 0
ReadsLastWeights line start (Ok w) = WeightsLast line start w
ReadsLastWeights line start (Err f) = IsWrongFrom line start WeightsSlot [] f.place

abbrev pub ReadsGroupList : Format → List ℕ → ℕ → Result (Named × Span) Fault → Type 0
ReadsGroupList format line start (Ok x) = (next : ℕ) × GroupTaken line start x.0 next × ListLast format line next x.1
ReadsGroupList format line start (Err f) = IsWrongFrom line start GroupSlot (ListSlot format ∷ []) f.place

abbrev pub ReadsGroupJahnWeights : List ℕ → ℕ → Result (Named × Span × Weights) Fault → Type 0
ReadsGroupJahnWeights line start (Ok x) =
    (second : ℕ) × (third : ℕ) × GroupTaken line start x.0 second × JahnTaken line second x.1 third
    × WeightsLast line third x.2
ReadsGroupJahnWeights line start (Err f) = IsWrongFrom line start GroupSlot (JahnSlot ∷ WeightsSlot ∷ []) f.place

abbrev pub ReadsTwoGroups : List ℕ → ℕ → Result (Named × Named) Fault → Type 0
ReadsTwoGroups line start (Ok x) = (next : ℕ) × GroupTaken line start x.0 next × GroupLast line next x.1
ReadsTwoGroups line start (Err f) = IsWrongFrom line start GroupSlot (GroupSlot ∷ []) f.place

abbrev pub ReadsTwoGroupsList : Format → List ℕ → ℕ → Result (Named × Named × Span) Fault → Type 0
ReadsTwoGroupsList format line start (Ok x) =
    (second : ℕ) × (third : ℕ) × GroupTaken line start x.0 second × GroupTaken line second x.1 third
    × ListLast format line third x.2
ReadsTwoGroupsList format line start (Err f) = IsWrongFrom line start GroupSlot (GroupSlot ∷ ListSlot format ∷ []) f.place

abbrev pub IsCommented : Format → List ℕ → Type 0
IsCommented One line = ⊥
IsCommented Two line = (0 < length line) × (get_or line 0 0 ≡ 35)
