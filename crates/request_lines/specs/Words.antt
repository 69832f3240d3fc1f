-- The words of a line, as languages.
--   Slot            what a word stands for: a group symbol, a Jahn symbol, a list of Jahn words, weights
--   IsListOf        Jahn words with one comma between two, and at most so many behind the first
--   words_behind    how many words a list of a format may have behind its first one
--   weights_word    the word of weights
--   IsWordOf        the word is a text for the slot
--   Ended           a text of one language, and a text of another behind it
--   IsEnding        what stands behind a word: nothing, or a space and words for the slots
--   IsWords         words for the slots, with one space between two
-- Source: this project's own.
use Rattle.std.specs.Prelude.{◌≡◌, ◌⊎◌, ℕ, zero, suc, List, [], ◌∷◌, ◌++◌, codes}
use Rattle.tensor_defs.specs.declared.Weights.{Weights}
use Rattle.tensor_defs.specs.declared.Weights.TheVariants.{Plain, Shear}
use Rattle.text_defs.specs.declared.Format.{Format}
use Rattle.text_defs.specs.declared.Format.TheVariants.{One, Two}
use Rattle.text_defs.specs.Prelude.{IsGroupText, IsJahnText}

pub data Slot : Type 0 where
  GroupSlot : Slot
  JahnSlot : Slot
  ListSlot : Format → Slot
  WeightsSlot : Slot

abbrev pub weights_word : Weights → List ℕ
weights_word Plain = codes "c"
weights_word Shear = codes "s"

abbrev pub IsWeightsText : List ℕ → Type 0
IsWeightsText word = (w : Weights) × (word ≡ weights_word w)

pub record Ended (Text Ending : List ℕ → Type 0) (line : List ℕ) : Type 0 where
  pub word : List ℕ
  pub ending : List ℕ
  pub is_word : Text word
  pub is_ending : Ending ending
  pub text : line ≡ word ++ ending

abbrev pub IsListOf : ℕ → List ℕ → Type 0
IsListOf zero text = IsJahnText text
IsListOf (suc more) text =
    Ended IsJahnText (λ e. (e ≡ []) ⊎ ((rest : List ℕ) × (e ≡ 44 ∷ rest) × IsListOf more rest)) text

abbrev pub words_behind : Format → ℕ
words_behind One = 0
words_behind Two = 7

abbrev pub IsWordOf : Slot → List ℕ → Type 0
IsWordOf GroupSlot word = IsGroupText word
IsWordOf JahnSlot word = IsJahnText word
IsWordOf (ListSlot format) word = IsListOf (words_behind format) word
IsWordOf WeightsSlot word = IsWeightsText word

abbrev pub IsEnding : List Slot → List ℕ → Type 0
IsEnding [] ending = ending ≡ []
IsEnding (s ∷ slots) ending =
    (rest : List ℕ) × (ending ≡ 32 ∷ rest) × Ended (IsWordOf s) (λ z. IsEnding slots z) rest

abbrev pub IsWords : Slot → List Slot → List ℕ → Type 0
IsWords first others line = Ended (IsWordOf first) (λ z. IsEnding others z) line
