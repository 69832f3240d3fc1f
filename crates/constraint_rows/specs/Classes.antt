-- The class of a component under a group and the exchanges of a symbol's blocks.
--   GroupStep       a step: an exchange of two blocks, or a turn by an element of a set of operations
--   class_at        what a table of first components tells at a component
--   IsGeneratedBy   the members of a list are the products of those of another, which are among them
--   IsPlainTable    a table of first components under signed permutation matrices that generate a group, and under
--                   the exchanges of a shape
-- Source: the definition of an orbit; International Tables D 1.1.
use Rattle.std.specs.Prelude.{◌≡◌, ◌≢◌, ℕ, List, length, Contains, Option, Some, None}
use Rattle.std.proofs.Common.{cond}
use Rattle.tensor_defs.specs.declared.Sign.{Sign}
use Rattle.tensor_defs.specs.Prelude.{Generated, JahnSymbol, rank, num_zero, Operation, Index, coefficient}
use Rattle.sign_moves.specs.declared.classes.Entry.{Entry}
use Rattle.sign_moves.specs.Prelude.{first_at, sign_at, vanishes_at, IsFirstTable, joined, Moves, IsReversible}
use Rattle.tensor_rank.specs.declared.exchanges.Exchange.{Exchange}
use Rattle.tensor_rank.specs.Prelude.{Exchanges, exchange_moves, Ordering, before_at, ShapeValue, AllWithin}
use Rattle.constraint_rows.specs.declared.ops.PlainOp.{PlainOp}
use Rattle.constraint_rows.specs.PlainOps.{StandForAll, op_moves}

pub data GroupStep (j : JahnSymbol) (H : Operation → Type 0) (c d : Index) : Type 0 where
  exchange : Exchanges j c d → GroupStep j H c d
  turn : (g : Operation) → H g → length d ≡ rank j → coefficient g c d ≢ num_zero → GroupStep j H c d

abbrev pub class_at : List Entry → ℕ → Option (ℕ × Sign)
class_at es c = cond (vanishes_at es c) None (Some (first_at es c, sign_at es c))

pub record IsGeneratedBy (hs gs : List Operation) : Type 0 where
  pub generated : (h : Operation) → Contains hs h → Generated (λ g. Contains gs g) h
  pub within : (g : Operation) → Contains gs g → Contains hs g

-- the moves of exchanges and of matrices
abbrev pub moves_of : ℕ → List Exchange → List PlainOp → Moves
moves_of r es ps = joined (exchange_moves r es) (op_moves r ps)

pub record IsPlainTable (n r : ℕ) (hs : List Operation) (s : ShapeValue) (o : Ordering) (es : List Entry) : Type 0 where
  pub generators : List Operation
  pub ops : List PlainOp
  pub generated : IsGeneratedBy hs generators
  pub stand : StandForAll s.marks generators ops
  pub within : AllWithin r s.exchanges
  pub reversible : IsReversible n (moves_of r s.exchanges ops)
  pub firsts : IsFirstTable n (moves_of r s.exchanges ops) (before_at r o) es
