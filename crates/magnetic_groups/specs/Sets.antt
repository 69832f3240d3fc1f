-- Groups as lists of operations: what is told of them. What a group is, is passed on from the crate of their closing.
--   FitsFrame      an operation that is plain as all members are, or hexagonal as all members are
--   HasForm        a set of operations has one of the 64 matrices, unprimed or primed
--   generators_of  the generators of a group: those that are held, or all elements where none is
--   TellsOutside   the least place of a member that isn't in the other list, or that there is none
--   TellsPlace     the place of a member, or that it is none
-- Source: the definition of a group.
use Rattle.std.specs.Prelude.{◌≡◌, ℕ, ◌<◌, slice_index_or, slice_get, Option, Some, None, MatchOption, Bool, List, length, Contains, ◌⊎◌}
use Rattle.tensor_defs.specs.Prelude.{Operation, IsBelow, IsPlain, IsHexagonal, AllOf}
use Rattle.op_matrix.specs.Table.{operation_at}
pub use Rattle.group_closing.specs.Sets.{HaveFrame, In, InverseIn, IsGroup, IsKept, Spanned}

abbrev pub FitsFrame : List Operation → Operation → Type 0
FitsFrame xs g = (IsPlain g × AllOf (In xs) IsPlain) ⊎ (IsHexagonal g × AllOf (In xs) IsHexagonal)

abbrev pub HasForm : (Operation → Type 0) → ℕ → Type 0
HasForm G c = (b : Bool) × G (operation_at c b)

abbrev pub generators_of : Option (List Operation) → List Operation → List Operation
generators_of (Some gens) items = gens
generators_of None items = items

-- k is the least place of a member of xs that isn't in ys
pub record IsFirstOutside (xs ys : List Operation) (k : ℕ) : Type 0 where
  pub below : k < length xs
  pub outside : (d : Operation) → ¬ Contains ys (slice_index_or xs k d)
  pub earlier : (j : ℕ) (d : Operation) → j < k → Contains ys (slice_index_or xs j d)

abbrev pub IsWithin : List Operation → List Operation → Type 0
IsWithin xs ys = IsBelow (In xs) (In ys)

abbrev pub TellsOutside : List Operation → List Operation → Option ℕ → Type 0
TellsOutside xs ys r = MatchOption r (IsWithin xs ys) (IsFirstOutside xs ys)

abbrev pub TellsPlace : List Operation → Operation → Option ℕ → Type 0
TellsPlace xs g r = MatchOption r (¬ Contains xs g) (λ k. slice_get xs k ≡ Some g)
