-- What is told of Voigt tables, carried over to the groups of symbols.
--   voigt_same, grows_voigt    over sets of operations with the same members
--   written_shape, fault_shape, fault_grows, fault_plain    what a fault tells
use Rattle.std.proofs.Common.{◌≡◌, ◌↔◌, ℕ, List, inl, inr}
use Rattle.std.specs.Prelude.{Result, Ok, Err, IfErr}
use Rattle.tensor_defs.specs.declared.Weights.{Weights}
use Rattle.tensor_defs.specs.Prelude.{AllOf, IsPlain, SameSet, JahnSymbol, Operation, block_before, HasBlocks, HasVoigtShape, IsVoigtTable, VoigtGrows}
use Rattle.tensor_defs.specs.Prelude.{VoigtTable}
use Rattle.reduced_form.proofs.SetLaws.{fits_admitted, grows_same, same_admitted}
use Rattle.voigt_table.specs.declared.memory.VoigtFault.{VoigtFault}
use Rattle.voigt_table.specs.declared.memory.VoigtFault.TheVariants.{Shape, TooLarge, NoMemory}
use Rattle.voigt_table.specs.Tables.{TellsVoigt}

-- ---- sets with the same members
pub voigt_same : (j : JahnSymbol) (G H : Operation → Type 0) (bs : List ℕ) (w : Weights) (v : VoigtTable) → SameSet G H →
    IsVoigtTable j G bs w v → IsVoigtTable j H bs w v
voigt_same j G H bs w v s t = record {
  table = t.table;
  fits = fits_admitted j G H (block_before bs) t.table (same_admitted j G H s) t.fits;
  free = t.free;
  sums = t.sums;
}

pub grows_voigt : (j : JahnSymbol) (G H : Operation → Type 0) (bs : List ℕ) (w : Weights) → SameSet G H →
    VoigtGrows j G bs w → VoigtGrows j H bs w
grows_voigt j G H bs w s g = elim g as (λ _. VoigtGrows j H bs w) [
  | inl x ↦ inl (grows_same j G H (block_before bs) s x)
  | inr y ↦ inr (y.0, fits_admitted j G H (block_before bs) y.0 (same_admitted j G H s) y.1, y.2, y.3, y.4, y.5, y.6)
]

-- ---- faults
pub written_shape : {X P : Type 0} (res : Result X VoigtFault) → IfErr res (λ e. e ≡ NoMemory) → P → (res ≡ Err Shape) ↔ (P → ⊥)
written_shape (Ok x) m p = ((λ e. let clash : Ok x ≡ Err Shape = e in cc), λ h. absurd (h p))
written_shape (Err Shape) m p = ((λ e. cc), λ h. absurd (h p))
written_shape (Err TooLarge) m p = ((λ e. cc), λ h. absurd (h p))
written_shape (Err NoMemory) m p = ((λ e. let clash : Err NoMemory ≡ Err Shape = e in cc), λ h. absurd (h p))

pub fault_shape : {X : Type 0} (j : JahnSymbol) (H : Operation → Type 0) (w : Weights) (e : VoigtFault) (r : Result X VoigtFault) →
    r ≡ Err e → TellsVoigt j H w (Err e) → (r ≡ Err Shape) ↔ (HasVoigtShape j.factors → ⊥)
fault_shape j H w Shape r is told = ((λ _. told), λ _. is)
fault_shape j H w TooLarge r is told = ((λ q. cc), λ h. absurd (h (told.0, told.1)))
fault_shape j H w NoMemory r is told = ((λ q. cc), λ h. absurd (h told))

pub fault_grows : (j : JahnSymbol) (H : Operation → Type 0) (w : Weights) (e : VoigtFault) → TellsVoigt j H w (Err e) → e ≡ TooLarge →
    (bs : List ℕ) × HasBlocks j.factors bs × VoigtGrows j H bs w
fault_grows j H w Shape told is = cc
fault_grows j H w TooLarge told is = (told.0, told.1, told.2)
fault_grows j H w NoMemory told is = cc

pub fault_plain : (j : JahnSymbol) (H : Operation → Type 0) (w : Weights) (e : VoigtFault) → TellsVoigt j H w (Err e) → e ≡ TooLarge →
    ¬ AllOf H IsPlain
fault_plain j H w Shape told is = cc
fault_plain j H w TooLarge told is = told.3
fault_plain j H w NoMemory told is = cc
