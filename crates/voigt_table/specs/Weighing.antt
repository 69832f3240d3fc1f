-- The terms of entries, weighted.
--   IsWeighted      a term with its factor weighted
--   AreWeightedTerms    those of a row
--   WeighsTooMuch   a weighted factor of a row reaches the limit
--   AreHeld         factors of a row can be held
--   AreWeighed      of the rows of all components, those of the first entries weighted
--   entry_of_place  the entry of a free component, by its place
--   IsWeighed       the table whose rows are the weighted ones of a component table
--   TellsWeighed    that table, or a weighted factor that reaches the limit, or want of memory
-- Source: International Tables D 1.1 (factors of 2 and 4 for compliances).
use Rattle.std.specs.Prelude.{◌≡◌, ℕ, ◌<◌, ◌≤◌, List, Contains, length, map, get_or, Result, Ok, Err}
use Rattle.std.specs.List.{AllZip}
use Rattle.tensor_defs.specs.declared.Weights.{Weights}
use Rattle.tensor_defs.specs.Prelude.{Each, ReachesLimit, value_of, block_numbers, component_number, index_of, VoigtEntry, component_of, weighted}
use Rattle.exact_frac.specs.Held.{IsHeld, IsHeldAs}
use Rattle.reduced_form.specs.declared.forms.Term.{Term}
use Rattle.reduced_form.specs.declared.memory.SolveFault.{SolveFault}
use Rattle.reduced_form.specs.declared.memory.SolveFault.TheVariants.{TooLarge, NoMemory}
use Rattle.reduced_form.specs.Forms.{FormValue, free_at, row_at}
use Rattle.voigt_table.specs.declared.entries.Blocks.{Blocks}
use Rattle.voigt_table.specs.Blocks.{component_at, entry_at, entry_count, entry_of, sizes_of}
use Rattle.voigt_table.specs.Tables.{VoigtValue}

pub record IsWeighted (w : Weights) (frees : ℕ → VoigtEntry) (e : VoigtEntry) (t u : Term) : Type 0 where
  pub free : u.free ≡ t.free
  pub factor : IsHeldAs (weighted w e (frees t.free) (value_of t.factor)) u.factor

abbrev pub AreWeightedTerms : Weights → (ℕ → VoigtEntry) → VoigtEntry → List Term → List Term → Type 0
AreWeightedTerms w frees e ts us = AllZip (IsWeighted w frees e) ts us

abbrev pub WeighsTooMuch : Weights → (ℕ → VoigtEntry) → VoigtEntry → List Term → Type 0
WeighsTooMuch w frees e ts =
    (t : Term) × Contains ts t × ReachesLimit (weighted w e (frees t.free) (value_of t.factor))

-- the entries of free components that are kept by the numbers of their entries
abbrev pub entry_of_place : List ℕ → List ℕ → ℕ → VoigtEntry
entry_of_place bs free k = entry_at bs (get_or free k 0)

-- the terms of the component of an entry
abbrev pub entry_terms : List ℕ → FormValue → ℕ → List Term
entry_terms bs f k = row_at f.rows (component_number (component_of bs (entry_at bs k)))

abbrev pub AreHeld : List Term → Type 0
AreHeld ts = Each (λ t. IsHeld t.factor) ts

pub record AreWeighed (b : Blocks) (w : Weights) (free : List ℕ) (old new : List (List Term)) (end : ℕ) : Type 0 where
  pub len : length new ≡ length old
  pub named : (c : ℕ) → c < length old → Each (λ t. t.free < length free) (row_at new c)
  pub done : (k : ℕ) → k < end →
      AreWeightedTerms w (entry_of_place (sizes_of b) (map (entry_of b) free)) (entry_at (sizes_of b) k)
      (row_at old (component_at b k)) (row_at new (component_at b k))
  pub rest : (k : ℕ) → end ≤ k → k < entry_count (sizes_of b) → row_at new (component_at b k) ≡ row_at old (component_at b k)

-- for a component table of rank r
pub record IsWeighed (r : ℕ) (w : Weights) (bs : List ℕ) (f : FormValue) (v : VoigtValue) : Type 0 where
  pub weights : v.weights ≡ w
  pub sizes : v.sizes ≡ bs
  pub free_len : length v.free ≡ length f.free
  pub free : (k : ℕ) → k < length f.free →
      entry_of_place bs v.free k ≡ block_numbers bs (index_of r (free_at f.free k))
  pub rows : (k : ℕ) → k < entry_count bs →
      AreWeightedTerms w (entry_of_place bs v.free) (entry_at bs k) (entry_terms bs f k) (row_at v.rows k)

pub record WeighsOver (r : ℕ) (w : Weights) (bs : List ℕ) (f : FormValue) : Type 0 where
  pub frees : List ℕ
  pub free : (k : ℕ) → k < length f.free →
      entry_of_place bs frees k ≡ block_numbers bs (index_of r (free_at f.free k))
  pub entry : ℕ
  pub below : entry < entry_count bs
  pub over : WeighsTooMuch w (entry_of_place bs frees) (entry_at bs entry) (entry_terms bs f entry)

abbrev pub TellsWeighed : ℕ → Weights → List ℕ → FormValue → Result VoigtValue SolveFault → Type 0
TellsWeighed r w bs f (Ok v) = IsWeighed r w bs f v
TellsWeighed r w bs f (Err TooLarge) = WeighsOver r w bs f
TellsWeighed r w bs f (Err NoMemory) = Unit {0}
