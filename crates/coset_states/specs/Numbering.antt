-- The states of a group under a subgroup, and for each place of an operation the number of its state, 0 for none.
--   Cosets       a group, a subgroup, and the least elements of its left cosets
--   TellsState   the number of the state of an operation, or that it isn't in the whole group
--   IsNumbered   the places of some products with elements of the subgroup got a number
--   IsCovering   the elements before a place are in the states listed so far
--   IsKept       what the parts of a list of states have to do with one another
-- Source: International Tables D 3.4.
use Rattle.std.specs.Prelude.{◌≡◌, ◌≢◌, ℕ, ◌+◌, ◌<◌, ◌≤◌, List, length, slice_index_or, Contains, ◌⊎◌, IsTrue, Option, Some, None}
use Rattle.tensor_defs.specs.Prelude.{Operation, IsProduct, Each, IsRising, comes_before, Times, IsState}
use Rattle.op_matrix.specs.Table.{nth_operation, place}
use Rattle.magnetic_groups.specs.Sets.{In, IsGroup, IsWithin}

pub record Cosets : Type 0 where
  pub whole : List Operation
  pub sub : List Operation
  pub reps : List Operation

abbrev pub TellsState : Cosets → Operation → Option ℕ → Type 0
TellsState c g None = ¬ Contains c.whole g
TellsState c g (Some k) = (r : Operation) × IsState c.reps k r × Times r (In c.sub) g

abbrev pub state_at : List ℕ → ℕ → ℕ
state_at s p = slice_index_or s p 0

-- k is in rF
abbrev pub InCoset : List Operation → Operation → Operation → Type 0
InCoset fs r k = Times r (In fs) k

-- the places of the first n products of r with elements of F got the number m, and no others were changed
pub record IsNumbered (fs : List Operation) (r : Operation) (m : ℕ) (n : ℕ) (s s' : List ℕ) : Type 0 where
  pub sized : length s' ≡ 128
  pub inside : (q : ℕ) (d k : Operation) → q < n → IsProduct r (slice_index_or fs q d) k → state_at s' (place k) ≡ m
  pub others : (p : ℕ) → (state_at s' p ≡ state_at s p)
      ⊎ ((state_at s' p ≡ m) × (p < 128) × InCoset fs r (nth_operation p))

-- the elements of G before place i are in the states listed so far
pub record IsCovering (gs fs : List Operation) (i : ℕ) (reps : List Operation) (s : List ℕ) : Type 0 where
  pub sized : length s ≡ 128
  pub sound : (p : ℕ) (d : Operation) → state_at s p ≢ 0 → (m : ℕ) × (state_at s p ≡ m + 1) × (m < length reps)
      × InCoset fs (slice_index_or reps m d) (nth_operation p)
  pub complete : (m : ℕ) (d k : Operation) → m < length reps → InCoset fs (slice_index_or reps m d) k →
      state_at s (place k) ≡ m + 1
  pub covered : (j : ℕ) (d : Operation) → j < i → state_at s (place (slice_index_or gs j d)) ≢ 0
  pub from : (r : Operation) → Contains reps r →
      (j : ℕ) × (j < i) × (j < length gs) × ((d : Operation) → slice_index_or gs j d ≡ r)
  pub few : length reps ≤ i
  pub rising : IsRising comes_before reps
  pub least : Each (λ r. (k : Operation) → InCoset fs r k → k ≢ r → IsTrue (comes_before r k)) reps

pub record IsKept (gs fs reps : List Operation) (s : List ℕ) : Type 0 where
  pub whole : IsGroup gs
  pub sub : IsGroup fs
  pub within : IsWithin fs gs
  pub covering : IsCovering gs fs (length gs) reps s
