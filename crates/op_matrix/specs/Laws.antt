-- Laws of the plain and the hexagonal operations.
--   HasFrame         plain or hexagonal
--   OrderIsStrict    the order is a strict total order of these operations, and the identity is the least
--   AreListed        these operations are those at the places below 128, each at one place
--   FramesAreClosed  two plain operations have a product, and it is plain; two hexagonal ones likewise
use Rattle.std.specs.Prelude.{◌≡◌, ◌≢◌, ℕ, ◌<◌, ◌⊎◌, IsTrue}
use Rattle.tensor_defs.specs.Prelude.{Operation, IsProduct, identity, comes_before, IsPlain, IsHexagonal}
use Rattle.op_matrix.specs.Table.{nth_operation, place}

abbrev pub HasFrame : Operation → Type 0
HasFrame g = IsPlain g ⊎ IsHexagonal g

pub record OrderIsStrict : Type 0 where
  pub irreflexive : (g : Operation) → HasFrame g → ¬ IsTrue (comes_before g g)
  pub transitive : (g h k : Operation) → HasFrame g → HasFrame h → HasFrame k →
      IsTrue (comes_before g h) → IsTrue (comes_before h k) → IsTrue (comes_before g k)
  pub total : (g h : Operation) → HasFrame g → HasFrame h →
      IsTrue (comes_before g h) ⊎ (g ≡ h) ⊎ IsTrue (comes_before h g)
  pub least : (g : Operation) → HasFrame g → g ≢ identity → IsTrue (comes_before identity g)

pub record AreListed : Type 0 where
  pub below : (g : Operation) → HasFrame g → place g < 128
  pub at : (g : Operation) → HasFrame g → g ≡ nth_operation (place g)
  pub framed : (k : ℕ) → k < 128 → HasFrame (nth_operation k)
  pub places : (k : ℕ) → k < 128 → place (nth_operation k) ≡ k

-- products exist within a frame and stay in it
abbrev pub IsClosed : (Operation → Type 0) → Type 0
IsClosed F = (g h : Operation) → F g → F h → (k : Operation) × F k × IsProduct g h k

abbrev pub FramesAreClosed : Type 0
FramesAreClosed = IsClosed IsPlain × IsClosed IsHexagonal
