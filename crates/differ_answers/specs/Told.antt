-- What is told of the distinguishing components of all states.
--   of_states       why there are no states, as why there is no answer
--   of_rows         why there are no rows, likewise
--   AreWritten      the texts of the states from the second on
--   IsDifferOver    the text of an answer for the states of one set of operations under another
-- Source: International Tables D 3.4.
use Rattle.std.specs.Prelude.{◌≡◌, ℕ, List, ◌++◌, drop, length}
use Rattle.tensor_defs.specs.Prelude.{JahnSymbol, Operation, index_before, RowsGrow, GroupSymbol, Fits, Table}
use Rattle.text_defs.specs.Prelude.{AreStateTexts, differ_header}
use Rattle.coset_states.specs.declared.StateFault.{StateFault}
use Rattle.coset_states.specs.declared.StateFault.TheVariants as states
use Rattle.state_marks.specs.declared.faults.DifferFault.{DifferFault}
use Rattle.state_marks.specs.declared.faults.DifferFault.TheVariants as rows
use Rattle.differ_answers.specs.declared.faults.DifferAnswerFault.{DifferAnswerFault}
use Rattle.differ_answers.specs.declared.faults.DifferAnswerFault.TheVariants.{NotSubgroup, TooLarge, NoMemory}

abbrev pub of_states : StateFault → DifferAnswerFault
of_states (states.NotSubgroup k) = NotSubgroup k
of_states states.NoMemory = NoMemory

abbrev pub of_rows : DifferFault → DifferAnswerFault
of_rows rows.TooLarge = TooLarge
of_rows rows.NoMemory = NoMemory

-- the texts of the states from the second on, where no row grows
pub record AreWritten (j : JahnSymbol) (G F : Operation → Type 0) (a : Table) (reps : List Operation) (old new : List ℕ) : Type 0 where
  pub texts : List ℕ
  pub are_texts : AreStateTexts j F a 2 (drop 1 reps) texts
  pub text : new ≡ old ++ texts
  pub calm : RowsGrow j G F → ⊥

-- the text of an answer, where no row grows
pub record IsDifferOver (g f : GroupSymbol) (j : JahnSymbol) (G F : Operation → Type 0) (reps : List Operation) (old new : List ℕ) : Type 0 where
  pub table : Table
  pub fits : Fits j F index_before table
  pub written : AreWritten j G F table reps (old ++ differ_header g f j (length reps) table) new
