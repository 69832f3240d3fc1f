-- What is told of the tables of groups in index order.
--   TellsTable      the table fits, and the elimination doesn't grow; or it grows; or memory was refused
--   TellsSame       whether two sets of operations admit the same tensors, and neither elimination grows; or one of
--                   them grows; or memory was refused
-- Source: the definitions of tables and of the elimination.
use Rattle.std.specs.Prelude.{ℕ, Bool, IsTrue, ◌↔◌, ◌⊎◌, Result, Ok, Err}
use Rattle.tensor_defs.specs.Prelude.{Grows, AdmitSame, JahnSymbol, Operation, index_before, Fits}
use Rattle.reduced_form.specs.declared.memory.SolveFault.{SolveFault}
use Rattle.reduced_form.specs.declared.memory.SolveFault.TheVariants.{TooLarge, NoMemory}
use Rattle.reduced_form.specs.Forms.{FormValue, form_table}

abbrev pub TellsTable : JahnSymbol → ℕ → (Operation → Type 0) → Result FormValue SolveFault → Type 0
TellsTable j r H (Ok f) = Fits j H index_before (form_table r f) × (Grows j H index_before → ⊥)
TellsTable j r H (Err TooLarge) = Grows j H index_before
TellsTable j r H (Err NoMemory) = Unit {0}

abbrev pub TellsSame : JahnSymbol → (Operation → Type 0) → (Operation → Type 0) → Result Bool SolveFault → Type 0
TellsSame j G H (Ok same) =
    (IsTrue same ↔ AdmitSame j G H) × (Grows j G index_before → ⊥) × (Grows j H index_before → ⊥)
TellsSame j G H (Err TooLarge) = Grows j G index_before ⊎ Grows j H index_before
TellsSame j G H (Err NoMemory) = Unit {0}
