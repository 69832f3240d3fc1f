-- The keywords of requests.
--   keyword_text    the text of a keyword, with the space behind it
--   keywords, keyword_at    their list, and the keyword at a place of it
--   slots_of        what the words stand for that a keyword wants behind the group symbol
--   IsRequestOf     a keyword, and the words that it wants in a format
--   IsWorded        some keyword, and the words that it wants
--   BeginsWith      the line begins with the keyword, and goes on at a place
--   ReadsKeyword    the keyword that the line begins with, and the place behind it; or else where the line goes wrong
-- Source: this project's own.
use Rattle.std.specs.Prelude.{◌≡◌, ℕ, List, [], ◌∷◌, ◌++◌, codes, drop, length, get_or, Result, Ok, Err}
use Rattle.text_defs.specs.declared.Format.{Format}
use Rattle.text_defs.specs.declared.Format.TheVariants.{One}
use Rattle.text_defs.specs.Languages.{IsFaulty}
use Rattle.text_defs.specs.declared.Fault.{Fault}
use Rattle.request_lines.specs.declared.keywords.Keyword.{Keyword}
use Rattle.request_lines.specs.declared.keywords.Keyword.TheVariants.{Form, Group, Voigt, States, Pairs, Differ, Same}
use Rattle.request_lines.specs.Words.{Slot, GroupSlot, JahnSlot, ListSlot, WeightsSlot, IsWords}

abbrev pub keyword_text : Keyword → List ℕ
keyword_text Form = codes "form "
keyword_text Group = codes "group "
keyword_text Voigt = codes "voigt "
keyword_text States = codes "states "
keyword_text Pairs = codes "pairs "
keyword_text Differ = codes "differ "
keyword_text Same = codes "same "

abbrev pub keywords : List Keyword
keywords = Form ∷ Group ∷ Voigt ∷ States ∷ Pairs ∷ Differ ∷ Same ∷ []

unfoldable pub keyword_at : ℕ → Keyword
keyword_at place = get_or keywords place Same

abbrev pub slots_of : Format → Keyword → List Slot
slots_of format Form = ListSlot format ∷ []
slots_of format Group = []
slots_of format Voigt = JahnSlot ∷ WeightsSlot ∷ []
slots_of format States = GroupSlot ∷ []
slots_of format Pairs = GroupSlot ∷ []
slots_of format Differ = GroupSlot ∷ ListSlot format ∷ []
slots_of format Same = GroupSlot ∷ ListSlot One ∷ []

pub record IsRequestOf (format : Format) (keyword : Keyword) (line : List ℕ) : Type 0 where
  pub rest : List ℕ
  pub text : line ≡ keyword_text keyword ++ rest
  pub words : IsWords GroupSlot (slots_of format keyword) rest

abbrev pub IsWorded : Format → List ℕ → Type 0
IsWorded format line = (keyword : Keyword) × IsRequestOf format keyword line

pub record BeginsWith (keyword : Keyword) (line : List ℕ) (start : ℕ) : Type 0 where
  pub start_is : start ≡ length (keyword_text keyword)
  pub text : line ≡ keyword_text keyword ++ drop start line

abbrev pub ReadsKeyword : List ℕ → Result (Keyword × ℕ) Fault → Type 0
ReadsKeyword line (Ok x) = BeginsWith x.0 line x.1
ReadsKeyword line (Err f) = (format : Format) → IsFaulty (IsWorded format) line f.place
