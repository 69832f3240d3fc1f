-- Marks of unknowns by their remainders.
--   is_marked    whether an unknown is marked, or one with the same remainder
--   AreMarked    nothing that was marked is unmarked, and a row is 0 at each unknown that isn't marked
--   IsAway       a row is 0 at each unknown that is marked
--   AreSeen      kept rows are 0 at each unknown that isn't marked
use Rattle.std.specs.Prelude.{◌≡◌, ℕ, ◌%◌, Bool, true, false, List, get_or, length}
use Rattle.tensor_defs.specs.Prelude.{Kept, Each, num_zero}
use Rattle.sparse_rows.specs.Rows.{coeff}
use Rattle.sparse_rows.specs.declared.entry.Entry.{Entry}

abbrev pub is_marked : List Bool → ℕ → Bool
is_marked marks u = get_or marks (u % 512) false

pub record AreMarked (old : List Bool) (row : List Entry) (new : List Bool) : Type 0 where
  pub len : length new ≡ length old
  pub kept : (u : ℕ) → is_marked new u ≡ false → is_marked old u ≡ false
  pub zero : (u : ℕ) → is_marked new u ≡ false → coeff row u ≡ num_zero

pub record IsAway (marks : List Bool) (row : List Entry) : Type 0 where
  pub zero : (u : ℕ) → is_marked marks u ≡ true → coeff row u ≡ num_zero

pub record AreSeen (marks : List Bool) (κs : List Kept) : Type 0 where
  pub len : length marks ≡ 512
  pub zero : (u : ℕ) → is_marked marks u ≡ false → Each (λ κ. κ.line u ≡ num_zero) κs
