-- What is told of a component over a set of component lists, and of the components to which steps carry it.
--   Carried         steps, one after the other, carry one component to another
--   Exchanges       a step: two blocks of one of a symbol's brackets are exchanged
--   IsZeroAt        each list of the set is zero there
--   IsFirstCarried  the first component, in an order, to which steps carry another, and the sign between the two
--                   in each list of the set
--   TellsClass      none where each list of the set is zero, else that first component and the sign
use Rattle.std.specs.Prelude.{◌≡◌, ℕ, Bool, Option, IsNone, IfSome, IsTrue, ◌↔◌, Contains}
use Rattle.tensor_defs.specs.declared.Sign.{Sign}
use Rattle.tensor_defs.specs.Prelude.{JahnSymbol, Bracket, rank, body_brackets, IsExchange, num_zero, Index, Tensor, index_of}
use Rattle.sign_moves.specs.Signs.{signed}

pub data Carried (Step : Index → Index → Type 0) : Index → Index → Type 0 where
  rests : {c : Index} → Carried Step c c
  steps : {c d e : Index} → Step c d → Carried Step d e → Carried Step c e

pub record Exchanges (j : JahnSymbol) (c d : Index) : Type 0 where
  pub bracket : Bracket
  pub listed : Contains (body_brackets j.factors 0) bracket
  pub exchange : IsExchange (rank j) bracket c d

pub record IsZeroAt (Lists : Tensor → Type 0) (c : Index) : Type 0 where
  pub zero : (t : Tensor) → Lists t → t c ≡ num_zero

pub record IsFirstCarried (Step : Index → Index → Type 0) (Lists : Tensor → Type 0) (before : Index → Index → Bool)
    (c d : Index) (s : Sign) : Type 0 where
  pub reached : Carried Step c d
  pub first : (e : Index) → Carried Step c e → ¬ IsTrue (before e d)
  pub same : (t : Tensor) → Lists t → t c ≡ signed s (t d)

-- for components by their numbers
pub record TellsClass (Step : Index → Index → Type 0) (Lists : Tensor → Type 0) (before : Index → Index → Bool)
    (r c : ℕ) (o : Option (ℕ × Sign)) : Type 0 where
  pub none : IsNone o ↔ IsZeroAt Lists (index_of r c)
  pub some : IfSome o (λ x. IsFirstCarried Step Lists before (index_of r c) (index_of r x.0) x.1)
