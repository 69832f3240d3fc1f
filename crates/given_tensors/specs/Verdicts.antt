-- What is told of a tensor that is given by all its components: invariant, or the first fact that refutes it.
--   Tells, Keeps    what the index symmetry tells of a component; the tensor is so there
--   Follows, Breaks the tensor is at a component what its index symmetry tells, or isn't
--   IsFirstBroken   the first component in index order at which it isn't
--   IsLeftSame      an operation leaves the tensor the same
--   IsFirstChanged  the first component in index order that an operation changes
--   IsRefuting      the first of a list of operations that doesn't leave the tensor the same, and the first component that it changes
--   TellsVerdict    what each verdict says
--   CheckGrows      the action of an operation grows, and neither the index symmetry nor an earlier operation refutes the tensor
-- Source: International Tables D 1.1 for invariance; what is looked at first is this project's own.
use Rattle.std.specs.Prelude.{◌≡◌, ◌≢◌, ℕ, ◌-◌, ◌<◌, ◌≤◌, List, length, slice_index_or, Option, Some, None}
use Rattle.tensor_defs.specs.declared.Sign.{Sign}
use Rattle.tensor_defs.specs.Prelude.{JahnSymbol, HasSymmetry, IsInvariant, num_zero, Operation, identity, index_before, Tensor, Marks, Agree, act, index_of}
use Rattle.sign_moves.specs.Signs.{signed}
use Rattle.tensor_rank.specs.Carried.{Exchanges, TellsClass}
use Rattle.magnetic_groups.specs.Sets.{In}
use Rattle.tensor_action.specs.Acting.{ActGrows}
use Rattle.given_tensors.specs.declared.verdict.Verdict.{Verdict}
use Rattle.given_tensors.specs.declared.verdict.Verdict.TheVariants.{Invariant, Symmetry, Element}

-- none where each list with the index symmetry is zero at the component, else its representative in index order and the sign
abbrev pub Tells : JahnSymbol → ℕ → ℕ → Option (ℕ × Sign) → Type 0
Tells j r c o = TellsClass (Exchanges j) (HasSymmetry j) index_before r c o

abbrev pub Keeps : ℕ → Tensor → ℕ → Option (ℕ × Sign) → Type 0
Keeps r t c None = t (index_of r c) ≡ num_zero
Keeps r t c (Some x) = t (index_of r c) ≡ signed x.1 (t (index_of r x.0))

pub record Follows (j : JahnSymbol) (r : ℕ) (t : Tensor) (c : ℕ) : Type 0 where
  pub class : Option (ℕ × Sign)
  pub told : Tells j r c class
  pub kept : Keeps r t c class

pub record Breaks (j : JahnSymbol) (r : ℕ) (t : Tensor) (c : ℕ) : Type 0 where
  pub class : Option (ℕ × Sign)
  pub told : Tells j r c class
  pub broken : ¬ Keeps r t c class

-- among the n components of rank r
pub record IsFirstBroken (j : JahnSymbol) (r n : ℕ) (t : Tensor) (c : ℕ) : Type 0 where
  pub below : c < n
  pub broken : Breaks j r t c
  pub earlier : (d : ℕ) → d < c → Follows j r t d

abbrev pub IsLeftSame : Marks → ℕ → Tensor → Operation → Type 0
IsLeftSame m r t g = Agree r (act m g t) t

pub record IsFirstChanged (m : Marks) (r n : ℕ) (t : Tensor) (g : Operation) (c : ℕ) : Type 0 where
  pub below : c < n
  pub changed : act m g t (index_of r c) ≢ t (index_of r c)
  pub earlier : (d : ℕ) → d < c → act m g t (index_of r d) ≡ t (index_of r d)

-- the operation at a place, from 0
abbrev pub element : List Operation → ℕ → Operation
element hs k = slice_index_or hs k identity

-- the place counts from 1
pub record IsRefuting (j : JahnSymbol) (hs : List Operation) (r n : ℕ) (t : Tensor) (place c : ℕ) : Type 0 where
  pub symmetric : HasSymmetry j t
  pub first : 1 ≤ place
  pub within : place ≤ length hs
  pub earlier : (k : ℕ) → k < place - 1 → IsLeftSame j.marks r t (element hs k)
  pub component : IsFirstChanged j.marks r n t (element hs (place - 1)) c

abbrev pub TellsVerdict : {R : Type 0} → JahnSymbol → List Operation → ℕ → ℕ → Tensor → Verdict R → Type 0
TellsVerdict j hs r n t Invariant = IsInvariant j (In hs) t
TellsVerdict j hs r n t (Symmetry c) = IsFirstBroken j r n t c
TellsVerdict j hs r n t (Element place c) = IsRefuting j hs r n t place c

pub record CheckGrows (j : JahnSymbol) (hs : List Operation) (r : ℕ) (t : Tensor) : Type 0 where
  pub symmetric : HasSymmetry j t
  pub place : ℕ
  pub within : place < length hs
  pub earlier : (k : ℕ) → k < place → IsLeftSame j.marks r t (element hs k)
  pub grows : ActGrows j.marks (element hs place) r t
