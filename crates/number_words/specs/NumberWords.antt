-- Texts of numbers a + b√3.
--   IsDigits        1 to 18 decimal digits, and the number that they write
--   IsQuotient, SpellsMagnitude    digits, /, and digits that aren't all 0; a magnitude by its numerator and denominator
--   root_word, SpellsFactor    r3; a multiple of √3: r3, or a magnitude, * and r3
--   sign_byte, size    + and -; a quotient with a sign
--   IsSum, SpellsSigned    a magnitude, a sign and a multiple of √3; a text whose first magnitude has this sign
--   SpellsNumber    the text, with a - before it or not, and the number that it stands for
--   IsNumberText    the text of some number
--   ReadsNumber     the number that the whole word stands for, or where the word goes wrong
-- Source: the field Q(√3); the texts are this project's own.
use Rattle.std.specs.Prelude.{◌≡◌, ◌⊎◌, ℕ, ◌<◌, ◌≤◌, pos, List, ◌∷◌, ◌++◌, length, codes, Result, Ok, Err}
use Rattle.std.specs.Str.Parse.{AllDigits, digits_value}
use Rattle.tensor_defs.specs.Number.{Number, Root3, add, mul, over, root_3}
use Rattle.tensor_defs.specs.declared.Sign.{Sign}
use Rattle.tensor_defs.specs.declared.Sign.TheVariants.{Plus, Minus}
use Rattle.sign_moves.specs.Signs.{signed}
use Rattle.text_defs.specs.Languages.{IsFaulty}
use Rattle.text_defs.specs.declared.Fault.{Fault}
use Rattle.root3_num.specs.Roots.{value_of_root}

pub record IsDigits (text : List ℕ) (n : ℕ) : Type 0 where
  pub some : 1 ≤ length text
  pub few : length text ≤ 18
  pub digits : AllDigits 10 text
  pub value : digits_value 10 text ≡ n

pub record IsQuotient (text : List ℕ) (n d : ℕ) : Type 0 where
  pub top : List ℕ
  pub below : List ℕ
  pub text_is : text ≡ top ++ 47 ∷ below
  pub numerator : IsDigits top n
  pub denominator : IsDigits below d
  pub not_zero : 0 < d

abbrev pub SpellsMagnitude : List ℕ → ℕ → ℕ → Type 0
SpellsMagnitude text n d = (IsDigits text n × (d ≡ 1)) ⊎ IsQuotient text n d

abbrev pub root_word : List ℕ
root_word = codes "r3"

abbrev pub SpellsFactor : List ℕ → ℕ → ℕ → Type 0
SpellsFactor text n d =
    ((text ≡ root_word) × (n ≡ 1) × (d ≡ 1)) ⊎ ((m : List ℕ) × SpellsMagnitude m n d × (text ≡ m ++ 42 ∷ root_word))

abbrev pub sign_byte : Sign → ℕ
sign_byte Plus = 43
sign_byte Minus = 45

abbrev pub size : Sign → ℕ → ℕ → Number
size s n d = signed s (over (pos n) d)

pub record IsSum (s : Sign) (text : List ℕ) (x : Number) : Type 0 where
  pub magnitude : List ℕ
  pub factor : List ℕ
  pub sign : Sign
  pub text_is : text ≡ magnitude ++ sign_byte sign ∷ factor
  pub n : ℕ
  pub d : ℕ
  pub rational : SpellsMagnitude magnitude n d
  pub p : ℕ
  pub q : ℕ
  pub root : SpellsFactor factor p q
  pub value : x ≡ add (size s n d) (mul (size sign p q) root_3)

abbrev pub SpellsSigned : Sign → List ℕ → Number → Type 0
SpellsSigned s text x =
    ((n : ℕ) × (d : ℕ) × SpellsMagnitude text n d × (x ≡ size s n d))
    ⊎ ((n : ℕ) × (d : ℕ) × SpellsFactor text n d × (x ≡ mul (size s n d) root_3)) ⊎ IsSum s text x

abbrev pub SpellsNumber : List ℕ → Number → Type 0
SpellsNumber text x = SpellsSigned Plus text x ⊎ ((rest : List ℕ) × (text ≡ 45 ∷ rest) × SpellsSigned Minus rest x)

abbrev pub IsNumberText : List ℕ → Type 0
IsNumberText text = (x : Number) × SpellsNumber text x

abbrev pub ReadsNumber : List ℕ → Result Root3 Fault → Type 0
ReadsNumber word (Ok r) = SpellsNumber word (value_of_root r)
ReadsNumber word (Err f) = IsFaulty IsNumberText word f.place
