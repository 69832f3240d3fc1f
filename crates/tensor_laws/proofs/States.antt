-- Domain states by their numbers.
--   one_state, state_at    a number within the list tells one operation, and there is one
use Rattle.list_laws.proofs.Kit.{◌≡◌, ℕ, ◌-◌, ◌≤◌, List, length, sym, ◌∙◌, arith, same_Some}
use Rattle.list_laws.proofs.Lists.{element_at}
use Rattle.tensor_defs.specs.Prelude.{Operation, IsState}

pub one_state : (reps : List Operation) (k : ℕ) (g h : Operation) → IsState reps k g → IsState reps k h → g ≡ h
one_state reps k g h p q = same_Some g h (sym p.1 ∙ q.1)

pub state_at : (reps : List Operation) (k : ℕ) → 1 ≤ k → k ≤ length reps → (g : Operation) × IsState reps k g
state_at reps k low high = let found = element_at reps (k - 1) (omega arith) in (found.0, (low, found.1))
