-- Domain states that a property tells apart, and the kind of a ferroic species.
--   property_symbol   polarisation is V, strain [V2], and magnetisation aeV
--   IsNumber        k is the number of a state
--   InState         an operation is in state k
--   AreToldApart    some invariant tensor, carried to state k, isn't the same as carried to state l
--   IsLeader        the least state that isn't told apart from state k
--   AreLeaders      these for all states, in order
--   NoneApart, AllApart    no two states are told apart; there are two, and each two are
--   IsKind          non, full, or partial where neither holds
-- Source: K. Aizu, Phys. Rev. B 2 (1970) 754, for the species; International Tables D 3.4 for the distinction of domain
-- states by tensors.
use Rattle.std.specs.Prelude.{◌≡◌, ◌≢◌, ℕ, ◌+◌, ◌<◌, ◌≤◌, true, false, List, [], ◌∷◌, length, slice_get, Some}
use Rattle.tensor_defs.specs.Prelude.{Atom, Bracketed, IsInvariant, JahnSymbol, Symmetric, V, rank, Operation, IsState, Times, Agree, Marks, Tensor, act}
use Rattle.species.specs.declared.kinds.Kind.{Kind}
use Rattle.species.specs.declared.kinds.Kind.TheVariants.{Full, Partial, Non}
use Rattle.species.specs.declared.properties.Property.{Property}
use Rattle.species.specs.declared.properties.Property.TheVariants.{Electric, Elastic, Magnetic}

abbrev one_factor : Marks → Atom → JahnSymbol
one_factor marks atom = record { marks = marks; factors = record { atom = atom; power = 1 } ∷ [] }

abbrev pub property_symbol : Property → JahnSymbol
property_symbol Electric = one_factor (record { axial = false; magnetic = false }) V
property_symbol Elastic = one_factor (record { axial = false; magnetic = false }) (Bracketed Symmetric V 2)
property_symbol Magnetic = one_factor (record { axial = true; magnetic = true }) V

-- ---- states told apart
abbrev pub IsNumber : List Operation → ℕ → Type 0
IsNumber reps k = (1 ≤ k) × (k ≤ length reps)

abbrev pub InState : (Operation → Type 0) → List Operation → ℕ → Operation → Type 0
InState F reps k g = (r : Operation) × IsState reps k r × Times r F g

pub record AreToldApart (j : JahnSymbol) (F : Operation → Type 0) (reps : List Operation) (k l : ℕ) : Type 0 where
  pub tensor : Tensor
  pub invariant : IsInvariant j F tensor
  pub g : Operation
  pub h : Operation
  pub in_k : InState F reps k g
  pub in_l : InState F reps l h
  pub differ : ¬ Agree (rank j) (act j.marks g tensor) (act j.marks h tensor)

-- ---- classes of states that aren't told apart
pub record IsLeader (j : JahnSymbol) (F : Operation → Type 0) (reps : List Operation) (k l : ℕ) : Type 0 where
  pub number : IsNumber reps l
  pub same : ¬ AreToldApart j F reps k l
  pub least : (m : ℕ) → 1 ≤ m → m < l → AreToldApart j F reps k m

pub record AreLeaders (j : JahnSymbol) (F : Operation → Type 0) (reps : List Operation) (ls : List ℕ) : Type 0 where
  pub len : length ls ≡ length reps
  pub each : (place l : ℕ) → slice_get ls place ≡ Some l → IsLeader j F reps (place + 1) l

-- ---- the kind
abbrev pub NoneApart : JahnSymbol → (Operation → Type 0) → List Operation → Type 0
NoneApart j F reps = (k l : ℕ) → ¬ AreToldApart j F reps k l

abbrev pub AllApart : JahnSymbol → (Operation → Type 0) → List Operation → Type 0
AllApart j F reps =
    (2 ≤ length reps) × ((k l : ℕ) → IsNumber reps k → IsNumber reps l → k ≢ l → AreToldApart j F reps k l)

abbrev pub IsKind : JahnSymbol → (Operation → Type 0) → List Operation → Kind → Type 0
IsKind j F reps Full = AllApart j F reps
IsKind j F reps Non = NoneApart j F reps
IsKind j F reps Partial = ¬ AllApart j F reps × ¬ NoneApart j F reps
