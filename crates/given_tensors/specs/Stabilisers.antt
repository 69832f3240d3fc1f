-- The stabiliser of a tensor.
--   Stabilises      an element of the whole group leaves the tensor the same
--   StabiliserGrows the action of some element of the whole group grows
-- Source: the definition of a stabiliser; International Tables D 1.1 for the action.
use Rattle.std.specs.Prelude.{ℕ}
use Rattle.tensor_defs.specs.Prelude.{InGroup, Operation, Tensor, Marks}
use Rattle.tensor_action.specs.Acting.{ActGrows}
use Rattle.given_tensors.specs.Verdicts.{IsLeftSame}
use Rattle.given_tensors.specs.Wholes.{whole_symbol}
use Rattle.given_tensors.specs.declared.wholes.Whole.{Whole}

pub record Stabilises (whole : Whole) (m : Marks) (r : ℕ) (t : Tensor) (g : Operation) : Type 0 where
  pub element : InGroup (whole_symbol whole) g
  pub same : IsLeftSame m r t g

pub record StabiliserGrows (whole : Whole) (m : Marks) (r : ℕ) (t : Tensor) : Type 0 where
  pub operation : Operation
  pub element : InGroup (whole_symbol whole) operation
  pub grows : ActGrows m operation r t
