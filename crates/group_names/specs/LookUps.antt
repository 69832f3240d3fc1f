-- The looking up of names.
--   HoldsAll        each of the operations is an element
--   IsFirstNamed    the first accepted symbol of a list with the elements of a group, or that there is none
--   pattern         the symbol of a parent, a setting and a pattern of primes, given by its look-up number
--   SameForms       two sets have the same matrices
--   HaveForms       the group of each symbol of a parent in a setting has the matrices of a set
--   IsNumberOf      the binary digits of a number, the least significant one for 0, tell of which numbers below 64 a fact
--                   holds
--   row_of          a row of the oriented parents, counted from 0
--   oriented        the symbols of a row
use Rattle.std.specs.Prelude.{◌≡◌, ℕ, ◌<◌, false, List, [], ◌∷◌, ◌++◌, Option, Some, None, Contains, ◌↔◌}
use Rattle.std.specs.Int.{bit_at}
use Rattle.std.specs.List.{slice_index_or}
use Rattle.tensor_defs.specs.declared.Setting.{Setting}
use Rattle.tensor_defs.specs.declared.Setting.TheVariants.{Default}
use Rattle.tensor_defs.specs.Prelude.{Each, Operation, GroupSymbol, IsGroupSymbol, operator_count, InGroup, IsNamed, symbols_with, turned_bits}
use Rattle.magnetic_groups.specs.Sets.{HasForm}
use Rattle.group_names.specs.declared.oriented.Oriented.{Oriented}
use Rattle.group_names.specs.declared.oriented.TheConstants.{ORIENTED}

abbrev pub HoldsAll : List Operation → List Operation → Type 0
HoldsAll xs gs = (g : Operation) → Contains gs g → Contains xs g

abbrev pub IsFirstNamed : (Operation → Type 0) → List GroupSymbol → Option GroupSymbol → Type 0
IsFirstNamed H ts (Some t) =
    (earlier : List GroupSymbol) × (later : List GroupSymbol) × (ts ≡ earlier ++ t ∷ later)
    × IsNamed t H × Each (λ u. ¬ IsNamed u H) earlier
IsFirstNamed H ts None = Each (λ u. ¬ IsNamed u H) ts

abbrev pub pattern : ℕ → Setting → ℕ → List GroupSymbol
pattern n s p =
    record { parent = n; primes = turned_bits (operator_count n) p; grey = false; setting = s } ∷ []

-- ---- matrices
abbrev pub SameForms : (Operation → Type 0) → (Operation → Type 0) → Type 0
SameForms G H = (c : ℕ) → c < 64 → HasForm G c ↔ HasForm H c

abbrev pub HaveForms : ℕ → Setting → (Operation → Type 0) → Type 0
HaveForms n s H =
    (t : GroupSymbol) → IsGroupSymbol t → t.parent ≡ n → t.setting ≡ s → SameForms (InGroup t) H

abbrev pub IsNumberOf : (ℕ → Type 0) → ℕ → Type 0
IsNumberOf P m = (c : ℕ) → c < 64 → (bit_at m c ≡ 1) ↔ P c

unfoldable pub row_of : ℕ → Oriented
row_of k = slice_index_or ORIENTED k (record { parent = 1; setting = Default; matrices = 0 })

abbrev pub oriented : Oriented → List GroupSymbol
oriented r = symbols_with r.parent r.setting
