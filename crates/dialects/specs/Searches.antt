-- Parts of the words that name a symbol, and what a search through a part answers.
--   IsPast           the word is in no text of the part, and no more than its first bytes up to the place begin one;
--                    these begin a word that names a symbol
--   Searched         the symbol with which the word stands in the part, or such a place
--   IsThis           a text alone, and its symbol
--   Below            the first parts of those that are numbered
--   IsPatternText    the long texts of one form with one setting and one pattern of primes
--   IsSettingText    the long texts of one form with one setting
use Rattle.std.specs.Prelude.{◌≡◌, ℕ, ◌<◌, ◌≤◌, Bool, List, length, take, Result, Ok, Err}
use Rattle.tensor_defs.specs.declared.Setting.{Setting}
use Rattle.tensor_defs.specs.Symbols.{GroupSymbol}
use Rattle.text_defs.specs.Languages.{Begins}
use Rattle.text_defs.specs.declared.Fault.{Fault}
use Rattle.dialects.specs.LongTexts.{IsFormText}
use Rattle.dialects.specs.Naming.{IsDialectText}

pub record IsPast (Part : List ℕ → GroupSymbol → Type 0) (word : List ℕ) (place : ℕ) : Type 0 where
  pub within : place ≤ length word
  pub begins : Begins IsDialectText (take place word)
  pub none : (t : GroupSymbol) → ¬ Part word t
  pub longest : (t : GroupSymbol) (n : ℕ) → n ≤ length word → place < n → ¬ Begins (λ w. Part w t) (take n word)

abbrev pub Searched : (List ℕ → GroupSymbol → Type 0) → List ℕ → Result GroupSymbol Fault → Type 0
Searched Part word (Ok t) = Part word t
Searched Part word (Err f) = IsPast Part word f.place

-- a text alone, and its symbol
abbrev pub IsThis : List ℕ → GroupSymbol → List ℕ → GroupSymbol → Type 0
IsThis text tree word t = (word ≡ text) × (t ≡ tree)

-- the first of the parts that are numbered from 0
abbrev pub Below : (ℕ → List ℕ → GroupSymbol → Type 0) → ℕ → List ℕ → GroupSymbol → Type 0
Below Part n word t = (j : ℕ) × (j < n) × Part j word t

pub record IsPatternText (k : ℕ) (s : Setting) (primes : ℕ) (grey : Bool) (word : List ℕ) (t : GroupSymbol) : Type 0
  where
    pub text : IsFormText k word t
    pub setting : t.setting ≡ s
    pub primes_are : t.primes ≡ primes
    pub grey_is : t.grey ≡ grey

pub record IsSettingText (k : ℕ) (s : Setting) (word : List ℕ) (t : GroupSymbol) : Type 0 where
  pub text : IsFormText k word t
  pub setting : t.setting ≡ s
