-- From which components a component of a carried tensor takes.
--   Covers          rising numbers in a range, with a fact at each number that is left out
--   IsNone          the coefficient of the component of a number is 0
--   IsPart          the product of a part is the coefficient of its component
--   part_at, numbers, ArePartsBelow    the part at a place; the numbers of parts; those below an end: their numbers, and their products
--   AreParts        all parts of a component
--   Extends         the parts with one index more behind, up to a part and a column
--   IsFront         the parts that are held are those of a front
-- Source: International Tables D 1.1.
use Rattle.std.specs.Prelude.{◌≡◌, ℕ, ◌+◌, ◌-◌, ◌*◌, ◌<◌, ◌≤◌, ◌^◌, List, [], ◌∷◌, ◌++◌, length, map, get_or, Option, IfSome}
use Rattle.tensor_defs.specs.Prelude.{Each, num_zero, Axis, Operation, Index, coefficient, index_of}
use Rattle.tensor_defs.specs.declared.Sign.TheVariants.{Plus}
use Rattle.tensor_action.specs.Factors.{IsWithin, product_number}
use Rattle.tensor_action.specs.declared.parts.Front.{Front}
use Rattle.tensor_action.specs.declared.parts.Part.{Part}

abbrev pub Covers : (ℕ → Type 0) → ℕ → List ℕ → ℕ → Type 0
Covers Z from [] end = (from ≤ end) × ((c : ℕ) → from ≤ c → c < end → Z c)
Covers Z from (n ∷ ns) end = (from ≤ n) × (n < end) × ((c : ℕ) → from ≤ c → c < n → Z c) × Covers Z (n + 1) ns end

abbrev pub IsNone : Operation → Index → ℕ → Type 0
IsNone g is c = coefficient g is (index_of (length is) c) ≡ num_zero

abbrev pub none_part : Part
none_part = record { number = 0; product = record { sign = Plus; rational = 0; root = 0; below = 0 } }

abbrev pub part_at : List Part → ℕ → Part
part_at ps k = get_or ps k none_part

abbrev pub numbers : List Part → List ℕ
numbers ps = map (λ p. p.number) ps

pub record IsPart (g : Operation) (is : Index) (p : Part) : Type 0 where
  pub value : product_number p.product ≡ coefficient g is (index_of (length is) p.number)
  pub within : IsWithin (3 ^ length is) p.product

-- those below an end
pub record ArePartsBelow (g : Operation) (is : Index) (ps : List Part) (end : ℕ) : Type 0 where
  pub covers : Covers (IsNone g is) 0 (numbers ps) end
  pub parts : Each (IsPart g is) ps

abbrev pub AreParts : Operation → Index → List Part → Type 0
AreParts g is ps = ArePartsBelow g is ps (3 ^ length is)

-- what a list of parts becomes at a column
abbrev pub Extends : Operation → Axis → ℕ → Part → List Part → List Part → Type 0
Extends g i col p old new =
    (is : Index) → IsPart g is p → p.number < 3 ^ length is →
    ArePartsBelow g (is ++ i ∷ []) old (3 * p.number + col) → ArePartsBelow g (is ++ i ∷ []) new (3 * p.number + col + 1)

-- the parts that are held are those of all indices but the last, if there are any
abbrev pub IsFront : ℕ → Option Front → List Part → Type 0
IsFront r held ps = IfSome held (λ f. AreParts f.op (index_of (r - 1) f.number) ps)
