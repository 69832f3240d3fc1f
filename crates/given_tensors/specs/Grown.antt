-- A group while the elements that leave a tensor the same are gathered.
--   IsGrown         the elements of the group, a new one, and products of these alone
--   StaysSame       an element of a list that leaves the tensor the same
--   IsStep          the group after one more operation
--   SomeGrows       the action of some element of a list grows
use Rattle.std.specs.Prelude.{◌≡◌, ◌⊎◌, ℕ, List, Contains}
use Rattle.tensor_defs.specs.Prelude.{Generated, Operation, Tensor, Marks}
use Rattle.tensor_action.specs.Acting.{ActGrows}
use Rattle.given_tensors.specs.Verdicts.{IsLeftSame}

pub record IsGrown (was : List Operation) (g : Operation) (now : List Operation) : Type 0 where
  pub keeps : (k : Operation) → Contains was k → Contains now k
  pub holds : Contains now g
  pub only : (k : Operation) → Contains now k → Generated (λ s. Contains was s ⊎ (s ≡ g)) k

abbrev pub StaysSame : Marks → ℕ → Tensor → List Operation → Operation → Type 0
StaysSame m r t all g = Contains all g × IsLeftSame m r t g

-- an operation is taken into the group exactly where it leaves the tensor the same
abbrev pub IsStep : Marks → ℕ → Tensor → List Operation → Operation → List Operation → Type 0
IsStep m r t was g now = (IsLeftSame m r t g × IsGrown was g now) ⊎ ((IsLeftSame m r t g → ⊥) × (now ≡ was))

pub record SomeGrows (m : Marks) (r : ℕ) (t : Tensor) (all : List Operation) : Type 0 where
  pub operation : Operation
  pub element : Contains all operation
  pub grows : ActGrows m operation r t
