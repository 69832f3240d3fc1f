-- Names of the crystal classes after Schoenflies.
--   class_name       the name of the class of a parent, by its number from 1 to 42
--   plain_symbol     the symbol of a parent without primes, not grey, in the default setting
--   IsFirstOf        the first parent with a name
--   IsReadName       a name, or S6, and the symbol that it is read as: that of the first parent with the name
-- Source: International Tables for Crystallography A, crystal classes.
use Rattle.std.specs.Prelude.{◌≡◌, ◌≢◌, ◌⊎◌, ℕ, ◌-◌, ◌<◌, ◌≤◌, false, List, [], ◌∷◌, get_or, codes}
use Rattle.tensor_defs.specs.declared.Setting.TheVariants.{Default}
use Rattle.tensor_defs.specs.Symbols.{GroupSymbol}

-- the names, the first of the parent 1
abbrev pub class_names : List (List ℕ)
class_names =
    codes "C1"
    ∷ codes "Ci"
    ∷ codes "C2"
    ∷ codes "Cs"
    ∷ codes "C2h"
    ∷ codes "D2"
    ∷ codes "C2v"
    ∷ codes "C2v"
    ∷ codes "C2v"
    ∷ codes "D2h"
    ∷ codes "C4"
    ∷ codes "S4"
    ∷ codes "C4h"
    ∷ codes "D4"
    ∷ codes "C4v"
    ∷ codes "D2d"
    ∷ codes "D2d"
    ∷ codes "D4h"
    ∷ codes "C3"
    ∷ codes "C3i"
    ∷ codes "D3"
    ∷ codes "D3"
    ∷ codes "D3"
    ∷ codes "C3v"
    ∷ codes "C3v"
    ∷ codes "C3v"
    ∷ codes "D3d"
    ∷ codes "D3d"
    ∷ codes "D3d"
    ∷ codes "C6"
    ∷ codes "C3h"
    ∷ codes "C6h"
    ∷ codes "D6"
    ∷ codes "C6v"
    ∷ codes "D3h"
    ∷ codes "D3h"
    ∷ codes "D6h"
    ∷ codes "T"
    ∷ codes "Th"
    ∷ codes "O"
    ∷ codes "Td"
    ∷ codes "Oh"
    ∷ []

unfoldable pub class_name : ℕ → List ℕ
class_name n = get_or class_names (n - 1) []

abbrev pub plain_symbol : ℕ → GroupSymbol
plain_symbol n = record { parent = n; primes = 0; grey = false; setting = Default }

-- n is the least number of a parent whose class has the name
pub record IsFirstOf (name : List ℕ) (n : ℕ) : Type 0 where
  pub first : 1 ≤ n
  pub last : n ≤ 42
  pub name_is : name ≡ class_name n
  pub least : (m : ℕ) → 1 ≤ m → m < n → class_name m ≢ name

-- S6 is another name of the class C3i
abbrev pub IsReadName : List ℕ → GroupSymbol → Type 0
IsReadName word t =
    ((n : ℕ) × IsFirstOf word n × (t ≡ plain_symbol n)) ⊎ ((word ≡ codes "S6") × (t ≡ plain_symbol 20))
