-- What is read at the front of a text.
--   IsAt            a byte at a place
--   IsRun           the digits at the front, as far as there are any, 18 at most
--   StopsWhole, StopsBelow    a magnitude that ends behind its numerator; behind its denominator
--   TellsMagnitude  the magnitude at the front, or the place where there is none
--   TellsFactor, TellsSigned    the same for whole texts
--   IsPlus          a number and a multiple of √3 with a sign
use Rattle.std.specs.Prelude.{◌≡◌, ◌≢◌, ◌⊎◌, ℕ, ◌+◌, ◌<◌, ◌≤◌, min, List, length, take, drop, slice_index, Result, Ok, Err}
use Rattle.std.specs.Char.{digit_value}
use Rattle.std.specs.Str.Parse.{AllDigits, digits_value}
use Rattle.tensor_defs.specs.Number.{Number, Root3, add, mul, root_3}
use Rattle.tensor_defs.specs.declared.Sign.{Sign}
use Rattle.text_defs.specs.Languages.{IsFaulty}
use Rattle.text_defs.specs.declared.Fault.{Fault}
use Rattle.root3_num.specs.Roots.{value_of_root}
use Rattle.number_words.specs.declared.magnitudes.Magnitude.{Magnitude}
use Rattle.number_words.specs.NumberWords.{SpellsFactor, SpellsSigned, size}

abbrev pub IsAt : List ℕ → ℕ → ℕ → Type 0
IsAt text place byte = (place < length text) × (slice_index text place ≡ byte)

pub record IsRun (text : List ℕ) (value count : ℕ) : Type 0 where
  pub within : count ≤ length text
  pub few : count ≤ 18
  pub digits : AllDigits 10 (take count text)
  pub value_is : digits_value 10 (take count text) ≡ value
  pub stops : count < length text → count < 18 → digit_value (slice_index text count) < 10 → ⊥

pub record StopsWhole (text : List ℕ) (m : Magnitude) : Type 0 where
  pub run : IsRun text m.num m.end
  pub some : 1 ≤ m.end
  pub one : m.den ≡ 1
  pub stops : m.end < length text → slice_index text m.end ≢ 47

-- count digits, /, and more digits
pub record StopsBelow (text : List ℕ) (num count den more : ℕ) : Type 0 where
  pub run : IsRun text num count
  pub some : 1 ≤ count
  pub inside : count < length text
  pub slash : slice_index text count ≡ 47
  pub below : IsRun (drop (count + 1) text) den more

abbrev pub TellsMagnitude : List ℕ → Result Magnitude Fault → Type 0
TellsMagnitude text (Ok m) =
    StopsWhole text m
    ⊎ ((count more : ℕ) × StopsBelow text m.num count m.den more × (0 < m.den) × (m.end ≡ count + 1 + more))
TellsMagnitude text (Err f) =
    ((value : ℕ) × IsRun text value 0 × (f.place ≡ 0))
    ⊎ ((num count more : ℕ) × StopsBelow text num count 0 more × (f.place ≡ count + 1 + min more 17))

abbrev pub IsFactorText : List ℕ → Type 0
IsFactorText z = (n d : ℕ) × SpellsFactor z n d

abbrev pub TellsFactor : List ℕ → Result Magnitude Fault → Type 0
TellsFactor text (Ok m) = SpellsFactor text m.num m.den
TellsFactor text (Err f) = IsFaulty IsFactorText text f.place

-- the text is a multiple of √3, and x is a number and that multiple with a sign
pub record IsPlus (a : Number) (s : Sign) (text : List ℕ) (x : Number) : Type 0 where
  pub p : ℕ
  pub q : ℕ
  pub root : SpellsFactor text p q
  pub value : x ≡ add a (mul (size s p q) root_3)

abbrev pub IsSignedText : Sign → List ℕ → Type 0
IsSignedText s z = (x : Number) × SpellsSigned s z x

abbrev pub TellsSigned : Sign → List ℕ → Result Root3 Fault → Type 0
TellsSigned s text (Ok r) = SpellsSigned s text (value_of_root r)
TellsSigned s text (Err f) = IsFaulty (IsSignedText s) text f.place
