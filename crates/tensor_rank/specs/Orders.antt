-- Orders of components.
--   Ordering        by the index digits, or by blocks of one or two indices
--   before_of       the order of the definitions
--   before_at       the same for components by their numbers
--   IsBlock, AreBlocks    a block of one or two indices; blocks that are together a number of indices
--   total           the sum of the sizes of blocks
--   OrdersAreOrders    each of these orders is one
--   front_number    the number of the first block of an index list
--   pair_of         a pair number from two digits
--   spell           the number that digits spell in base 7 behind a number
--   ArePlaced       each two of the first components are ordered as their places
--   spelled_before  what is spelled decides, and where it agrees something else
use Rattle.std.specs.Prelude.{◌≡◌, ℕ, zero, suc, ◌+◌, ◌-◌, ◌*◌, ◌<◌, ◌≤◌, nat_eq, nat_lt, Bool, true, false, List, [], ◌∷◌, cond, get_or, length}
use Rattle.tensor_defs.specs.Prelude.{Each, index_before, block_before, pair_number, IsOrder, Index, digit, index_of}

pub data Ordering : Type 0 where
  ByIndex : Ordering
  ByBlocks : List ℕ → Ordering

abbrev pub before_of : Ordering → Index → Index → Bool
before_of ByIndex is js = index_before is js
before_of (ByBlocks bs) is js = block_before bs is js

abbrev pub before_at : ℕ → Ordering → ℕ → ℕ → Bool
before_at r o a b = before_of o (index_of r a) (index_of r b)

abbrev pub is_by_index : Ordering → Bool
is_by_index ByIndex = true
is_by_index (ByBlocks bs) = false

abbrev pub IsBlock : ℕ → Type 0
IsBlock b = (1 ≤ b) × (b ≤ 2)

abbrev pub total : List ℕ → ℕ
total [] = 0
total (b ∷ bs) = b + total bs

abbrev pub AreBlocks : ℕ → List ℕ → Type 0
AreBlocks r bs = Each IsBlock bs × (total bs ≡ r)

abbrev pub OrdersAreOrders : Type 0
OrdersAreOrders = (r : ℕ) (o : Ordering) → IsOrder r (before_of o)

abbrev pub front_number : ℕ → Index → ℕ
front_number (suc zero) (i ∷ is) = digit i
front_number (suc (suc zero)) (i ∷ j ∷ is) = pair_number i j
front_number w is = 0

abbrev pub pair_of : ℕ → ℕ → ℕ
pair_of d e = cond (nat_eq d e) d (9 - (d + e))

abbrev pub spell : ℕ → List ℕ → ℕ
spell x [] = x
spell x (p ∷ ps) = spell (7 * x + p) ps

abbrev pub ArePlaced : ℕ → List ℕ → List ℕ → Type 0
ArePlaced r bs xs = (a b : ℕ) → a < length xs → b < length xs →
    nat_lt (get_or xs a 0) (get_or xs b 0) ≡ block_before bs (index_of r a) (index_of r b)

abbrev pub spelled_before : ℕ → ℕ → Bool → Bool
spelled_before x y rest = cond (nat_lt x y) true (cond (nat_lt y x) false rest)
