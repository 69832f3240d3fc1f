-- Voigt tables as they are kept: the numbers of the free entries, and the terms of each entry.
--   VoigtValue      weights, the sizes of blocks, the free entries, and rows of terms
--   IsVoigtValue    as many rows as entries, and terms name free entries
--   kept_value      the same by the free components and the rows of all components
--   voigt_of        the Voigt table of the definitions
--   TellsBlocks     the Voigt table of a symbol with known blocks, where nothing grows; or something grows, and the
--                   group isn't all plain; or memory was refused
--   TellsVoigt      the same for any symbol; or the symbol has no Voigt table
-- Source: the definition of a Voigt table.
use Rattle.std.specs.Prelude.{◌≡◌, ℕ, ◌<◌, List, length, get_or, map, Result, Ok, Err}
use Rattle.std.specs.List.{range_with_len}
use Rattle.tensor_defs.specs.declared.Weights.{Weights}
use Rattle.tensor_defs.specs.Prelude.{AllOf, IsPlain, JahnSymbol, Each, Operation, HasBlocks, HasVoigtShape, IsVoigtTable, VoigtGrows, VoigtTable}
use Rattle.reduced_form.specs.declared.forms.Term.{Term}
use Rattle.reduced_form.specs.declared.memory.SolveFault.{SolveFault}
use Rattle.reduced_form.specs.declared.memory.SolveFault.TheVariants as solving
use Rattle.reduced_form.specs.Forms.{row_at, term_of}
use Rattle.voigt_table.specs.declared.memory.VoigtFault.{VoigtFault}
use Rattle.voigt_table.specs.declared.memory.VoigtFault.TheVariants.{Shape, TooLarge, NoMemory}
use Rattle.voigt_table.specs.declared.entries.Blocks.{Blocks}
use Rattle.voigt_table.specs.Blocks.{component_at, entry_at, entry_count, entry_number, entry_of, sizes_of}

pub record VoigtValue : Type 0 where
  pub weights : Weights
  pub sizes : List ℕ
  pub free : List ℕ
  pub rows : List (List Term)

pub record IsVoigtValue (v : VoigtValue) : Type 0 where
  pub len : length v.rows ≡ entry_count v.sizes
  pub below : (k : ℕ) → k < length v.free → get_or v.free k 0 < entry_count v.sizes
  pub named : (k : ℕ) → k < entry_count v.sizes → Each (λ t. t.free < length v.free) (row_at v.rows k)

-- the entries of free components, and the rows of the components of entries
abbrev pub kept_value : Weights → Blocks → List ℕ → List (List Term) → VoigtValue
kept_value w b free rows = record {
  weights = w;
  sizes = sizes_of b;
  free = map (entry_of b) free;
  rows = map (λ k. row_at rows (component_at b k)) (range_with_len 0 (entry_count (sizes_of b)));
}

abbrev pub voigt_of : VoigtValue → VoigtTable
voigt_of v = record {
  free = map (entry_at v.sizes) v.free;
  terms = λ e. map term_of (row_at v.rows (entry_number v.sizes e));
}

abbrev pub TellsBlocks :
    JahnSymbol → (Operation → Type 0) → List ℕ → Weights → Result VoigtValue SolveFault → Type 0
TellsBlocks j H bs w (Ok v) =
    (v.weights ≡ w) × (v.sizes ≡ bs) × IsVoigtTable j H bs w (voigt_of v) × (VoigtGrows j H bs w → ⊥)
TellsBlocks j H bs w (Err solving.TooLarge) = VoigtGrows j H bs w × ¬ AllOf H IsPlain
TellsBlocks j H bs w (Err solving.NoMemory) = Unit {0}

abbrev pub TellsVoigt : JahnSymbol → (Operation → Type 0) → Weights → Result VoigtValue VoigtFault → Type 0
TellsVoigt j H w (Ok v) = HasBlocks j.factors v.sizes × TellsBlocks j H v.sizes w (Ok v)
TellsVoigt j H w (Err Shape) = HasVoigtShape j.factors → ⊥
TellsVoigt j H w (Err TooLarge) =
    (bs : List ℕ) × HasBlocks j.factors bs × VoigtGrows j H bs w × ¬ AllOf H IsPlain
TellsVoigt j H w (Err NoMemory) = HasVoigtShape j.factors
