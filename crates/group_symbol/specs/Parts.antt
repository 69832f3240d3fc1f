-- The languages of the parts of a symbol's text, and what the readers of the parts answer.
--   ReadsSuffix     the setting whose suffix the word is
--   IsEnding        the word is what stands behind the signs: 1' where the symbol is grey, and a suffix
--   ReadsEnding     whether the symbol is grey, and its setting
--   IsFullTextOf    the full text of a symbol of this parent
--   ReadsFull       the symbol of this parent that the word spells
use Rattle.std.specs.Prelude.{◌≡◌, ℕ, Bool, true, List, ◌++◌, Result, Ok, Err}
use Rattle.tensor_defs.specs.Symbols.{GroupSymbol}
use Rattle.tensor_defs.specs.declared.Setting.{Setting}
use Rattle.text_defs.specs.Prelude.{IsSuffix, IsFullText, grey_text, IsFaulty}
use Rattle.text_defs.specs.declared.Fault.{Fault}

abbrev pub IsSuffixText : ℕ → List ℕ → Type 0
IsSuffixText parent word = (s : Setting) × IsSuffix parent word s

abbrev pub ReadsSuffix : ℕ → List ℕ → Result Setting Fault → Type 0
ReadsSuffix parent word (Ok s) = IsSuffix parent word s
ReadsSuffix parent word (Err f) = IsFaulty (IsSuffixText parent) word f.place

-- the grey suffix stands only behind plain signs, which have no primes
pub record IsEnding (parent : ℕ) (plain : Bool) (word : List ℕ) (grey : Bool) (setting : Setting) : Type 0 where
  pub is_plain : grey ≡ true → plain ≡ true
  pub suffix : List ℕ
  pub is_suffix : IsSuffix parent suffix setting
  pub text : word ≡ grey_text grey ++ suffix

abbrev pub IsEndingText : ℕ → Bool → List ℕ → Type 0
IsEndingText parent plain word = (e : Bool × Setting) × IsEnding parent plain word e.0 e.1

abbrev pub ReadsEnding : ℕ → Bool → List ℕ → Result (Bool × Setting) Fault → Type 0
ReadsEnding parent plain word (Ok e) = IsEnding parent plain word e.0 e.1
ReadsEnding parent plain word (Err f) = IsFaulty (IsEndingText parent plain) word f.place

abbrev pub IsFullTextOf : ℕ → List ℕ → Type 0
IsFullTextOf parent word = (t : GroupSymbol) × (t.parent ≡ parent) × IsFullText word t

abbrev pub ReadsFull : ℕ → List ℕ → Result GroupSymbol Fault → Type 0
ReadsFull parent word (Ok t) = IsFullText word t
ReadsFull parent word (Err f) = IsFaulty (IsFullTextOf parent) word f.place
