-- Which fault of a part is which fault of the answer.
use Rattle.std.proofs.Common.{◌≡◌, ℕ, refl}
use Rattle.coset_states.specs.declared.StateFault.{StateFault}
use Rattle.coset_states.specs.declared.StateFault.TheVariants as states
use Rattle.state_marks.specs.declared.faults.DifferFault.{DifferFault}
use Rattle.state_marks.specs.declared.faults.DifferFault.TheVariants as rows
use Rattle.differ_answers.specs.declared.faults.DifferAnswerFault.TheVariants.{NotSubgroup, TooLarge}
use Rattle.differ_answers.specs.Told.{of_rows, of_states}

pub states_outside : (e : StateFault) (k : ℕ) → of_states e ≡ NotSubgroup k → e ≡ states.NotSubgroup k
states_outside (states.NotSubgroup m) k is = cc
states_outside states.NoMemory k is = cc

pub no_states_large : (e : StateFault) → of_states e ≡ TooLarge → ⊥
no_states_large (states.NotSubgroup m) is = cc
no_states_large states.NoMemory is = cc

pub rows_large : (e : DifferFault) → of_rows e ≡ TooLarge → e ≡ rows.TooLarge
rows_large rows.TooLarge is = refl
rows_large rows.NoMemory is = cc

pub rows_outside : (e : DifferFault) (k : ℕ) → of_rows e ≡ NotSubgroup k → ⊥
rows_outside rows.TooLarge k is = cc
rows_outside rows.NoMemory k is = cc
