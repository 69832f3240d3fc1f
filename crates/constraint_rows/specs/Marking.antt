-- What a diagonal element does to a component, and tables that are marked by it.
--   Turns, Kills    coefficient -1 from a component to itself; the same of an operation that is diagonal
--   AreDiagonals    the diagonal ones among the first elements of a list, by their rows
--   IsTurned, IsTurnedEntry    one of a list carries a component with the sign -1; an entry that vanishes also there
--   IsMarked        an entry that vanishes also where a diagonal element turns its first component round
--   AreMarked       the same for tables, component by component
-- Source: this project's own.
use Rattle.std.specs.Prelude.{◌≡◌, ◌↔◌, ℕ, ◌<◌, ◌⊎◌, true, List, length, get_or}
use Rattle.tensor_defs.specs.Prelude.{IsDiagonal, mul, neg, num_one, Operation, identity, Index, Marks, coefficient, index_of, sign}
use Rattle.magnetic_groups.specs.Sets.{In}
use Rattle.sign_moves.specs.declared.classes.Entry.{Entry}
use Rattle.sign_moves.specs.Classes.{entry_at}
use Rattle.tensor_defs.specs.declared.Sign.TheVariants.{Minus}
use Rattle.constraint_rows.specs.declared.ops.PlainOp.{PlainOp}
use Rattle.constraint_rows.specs.PlainOps.{StandsFor, op_at, op_sign}
use Rattle.constraint_rows.specs.WordRows.{IsKilled}

pub record Turns (m : Marks) (c : Index) (g : Operation) : Type 0 where
  pub turns : mul (sign m g) (coefficient g c c) ≡ neg num_one

pub record Kills (m : Marks) (c : Index) (g : Operation) : Type 0 where
  pub diagonal : IsDiagonal g
  pub turns : Turns m c g

pub record AreDiagonals (m : Marks) (hs : List Operation) (place : ℕ) (ps : List PlainOp) : Type 0 where
  pub found : (k : ℕ) → k < length ps → (g : Operation) × In hs g × IsDiagonal g × StandsFor m g (op_at ps k)
  pub all : (k : ℕ) → k < place → IsDiagonal (get_or hs k identity) → (i : ℕ) × (i < length ps) × StandsFor m (get_or hs k identity) (op_at ps i)

abbrev pub IsTurned : ℕ → List PlainOp → ℕ → Type 0
IsTurned r ps c = (k : ℕ) × (k < length ps) × (op_sign r (op_at ps k) c ≡ Minus)

pub record IsTurnedEntry (r : ℕ) (ps : List PlainOp) (old new : Entry) : Type 0 where
  pub same_first : new.first ≡ old.first
  pub same_sign : new.sign ≡ old.sign
  pub vanishes : (new.vanishes ≡ true) ↔ ((old.vanishes ≡ true) ⊎ IsTurned r ps old.first)

pub record IsMarked (r : ℕ) (m : Marks) (hs : List Operation) (old new : Entry) : Type 0 where
  pub same_first : new.first ≡ old.first
  pub same_sign : new.sign ≡ old.sign
  pub vanishes : (new.vanishes ≡ true) ↔ ((old.vanishes ≡ true) ⊎ IsKilled m (In hs) (index_of r old.first))

pub record AreMarked (r : ℕ) (m : Marks) (hs : List Operation) (old new : List Entry) : Type 0 where
  pub len : length new ≡ length old
  pub each : (c : ℕ) → c < length old → IsMarked r m hs (entry_at old c) (entry_at new c)
