-- The operations of operators, one after another.
use Rattle.list_laws.proofs.Kit.{◌≡◌, ◌≤◌, ℕ, List, ◌++◌, length, drop}
use Rattle.tensor_defs.specs.declared.Setting.{Setting}
use Rattle.tensor_defs.specs.declared.OpKind.{OpKind}
use Rattle.tensor_defs.specs.declared.Direction.{Direction}
use Rattle.tensor_defs.specs.Prelude.{Operation, operations_of}
use Rattle.group_symbol.specs.Tables.{operators_of}

-- the operations of the first i operators are found, and the others are still to come
pub record AreFound (s : Setting) (primes : ℕ) (operators : List (OpKind × Direction)) (found : List Operation) (i left : ℕ) : Type 0 where
  pub value : found ++ operations_of s left (operators_of (drop i operators)) ≡ operations_of s primes (operators_of operators)
  pub few : length found ≤ i
