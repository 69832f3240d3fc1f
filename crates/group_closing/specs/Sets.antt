-- Groups as lists of operations.
--   In          the set of the members of a list
--   HaveFrame   all plain, or all hexagonal
--   Spanned     all products of finite lists of members
--   InverseIn   the members hold an inverse of an operation
--   IsGroup     a list of operations that is a group, in the order of operations
--   IsKept      what a group, its marks and its generators have to do with one another
-- Source: the definition of a group.
use Rattle.std.specs.Prelude.{◌≡◌, slice_get, Some, Bool, List, length, Contains, ◌⊎◌, ◌↔◌}
use Rattle.tensor_defs.specs.Prelude.{IsRising, Operation, IsProduct, identity, comes_before, Generated, IsPlain, IsHexagonal, AllOf}
use Rattle.group_closing.specs.Marks.{marked_below}

-- the set of the members of a list
abbrev pub In : List Operation → Operation → Type 0
In xs g = Contains xs g

abbrev pub HaveFrame : List Operation → Type 0
HaveFrame xs = AllOf (In xs) IsPlain ⊎ AllOf (In xs) IsHexagonal

abbrev pub Spanned : List Operation → Operation → Type 0
Spanned gens k = Generated (In gens) k

-- the members hold an inverse of g
abbrev pub InverseIn : (Operation → Type 0) → Operation → Type 0
InverseIn F g = (k : Operation) × F k × IsProduct g k identity × IsProduct k g identity

pub record IsGroup (items : List Operation) : Type 0 where
  pub rising : IsRising comes_before items
  pub first : slice_get items 0 ≡ Some identity
  pub one : Contains items identity
  pub closed : (g h : Operation) → Contains items g → Contains items h →
      (k : Operation) × Contains items k × IsProduct g h k
  pub inverses : (g : Operation) → Contains items g → InverseIn (In items) g
  pub frame : HaveFrame items

-- the list is that of the marked places, it is a group, and the generators span it
pub record IsKept (generators : List Operation) (items : List Operation) (m : List Bool) : Type 0 where
  pub marked : length m ≡ 128
  pub listed : items ≡ marked_below 128 m
  pub group : IsGroup items
  pub inside : (g : Operation) → Contains generators g → Contains items g
  pub spanned : (k : Operation) → Contains items k ↔ Spanned generators k
