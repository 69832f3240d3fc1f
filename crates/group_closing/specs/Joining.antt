-- A group with more operations, by cosets of the group, whose elements stand in front of a list.
--   InFront        an operation is among the first n of a list
--   InCoset        it is a product of r with one of the first n
--   IsAdding       the products of r with the first q operations were added, where those with the first n may be
--   HoldsGroup     the marks and the list of operations that are the group of the products of generators
--   AreCosets      the marks and the list hold the cosets of some first elements, and no more
-- Source: this project's own, over left cosets.
use Rattle.std.specs.Prelude.{◌≡◌, ℕ, ◌+◌, ◌<◌, ◌≤◌, ◌⊎◌, Bool, List, length, slice_index_or, Contains}
use Rattle.tensor_defs.specs.Operation.{Operation, IsProduct, identity}
use Rattle.group_closing.specs.Marks.{Grows, IsClosing, Reached, marked_below, unmarked}
use Rattle.group_closing.specs.Sets.{IsKept, Spanned}

abbrev pub InFront : ℕ → List Operation → Operation → Type 0
InFront n f t = (i : ℕ) × (i < n) × ((d : Operation) → slice_index_or f i d ≡ t)

abbrev pub InCoset : Operation → ℕ → List Operation → Operation → Type 0
InCoset r n f g = (t : Operation) × InFront n f t × IsProduct r t g

pub record IsAdding (r : Operation) (n q : ℕ) (m : List Bool) (f : List Operation) (m' : List Bool) (f' : List Operation) : Type 0
  where
    pub sized : length m' ≡ 128
    pub counted : length f' + unmarked m' ≡ 128
    pub grows : Grows m f m' f'
    pub more : Reached m' r → length f + 1 ≤ length f'
    pub held : (i : ℕ) (d k : Operation) → i < q → IsProduct r (slice_index_or f i d) k → Reached m' k
    pub only : (g : Operation) → Reached m' g → Reached m g ⊎ InCoset r n f g
    pub closing : (gens : List Operation) → IsClosing gens m f → ((g : Operation) → InCoset r n f g → Spanned gens g) → IsClosing gens m' f'

pub record HoldsGroup (gens : List Operation) (m : List Bool) (f : List Operation) : Type 0 where
  pub closing : IsClosing gens m f
  pub kept : IsKept gens (marked_below 128 m) m

pub record AreCosets (gens : List Operation) (n : ℕ) (firsts : List Operation) (m : List Bool) (f : List Operation) : Type 0 where
  pub closing : IsClosing gens m f
  pub within : n ≤ length f
  pub one : InFront n f identity
  pub front : (t u k : Operation) → InFront n f t → InFront n f u → IsProduct t u k → InFront n f k
  pub covered : (g : Operation) → Reached m g → (r : Operation) × Contains firsts r × InCoset r n f g
  pub whole : (g t k : Operation) → Reached m g → InFront n f t → IsProduct g t k → Reached m k
  pub heads : (r : Operation) → Contains firsts r → Reached m r
  pub few : length firsts ≤ length f
