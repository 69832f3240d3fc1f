-- Equations that stand in an answer already.
--   lines_text      the equations of the components that differ in a state
--   AreLines        they stand at a place among bytes
--   IsKnown         so do those of the state of an operation
--   Serves          those at a place are the equations of the state of an operation too
--   IsState         the text of the state of an operation behind other bytes
-- Source: this project's own.
use Rattle.std.specs.Prelude.{◌≡◌, ℕ, ◌+◌, List, ◌++◌, length}
use Rattle.std.specs.List.{flat_map}
use Rattle.tensor_defs.specs.Prelude.{Operation, Table, Marks}
use Rattle.text_defs.specs.AnswerTexts.{component_name, equation, free_names, named_roots, state_text}
use Rattle.state_marks.specs.Told.{AreStateRows, StateValue, row_of}
use Rattle.differ_answers.specs.declared.known.Known.{Known}
use Rattle.differ_answers.specs.declared.states.Lines.{Lines}
use Rattle.differ_answers.specs.Texts.{marked_indices}

abbrev pub lines_text : ℕ → Table → StateValue → List ℕ
lines_text r a s = flat_map (λ i. equation (component_name i) (named_roots (free_names a) (row_of s i))) (marked_indices r s)

pub record AreLines (r : ℕ) (a : Table) (s : StateValue) (out : List ℕ) (l : Lines) : Type 0 where
  pub before : List ℕ
  pub after : List ℕ
  pub text : out ≡ before ++ (lines_text r a s ++ after)
  pub count : l.count ≡ length (marked_indices r s)
  pub start : l.start ≡ length before
  pub end : l.end ≡ length before + length (lines_text r a s)

pub record IsKnown (m : Marks) (r : ℕ) (a : Table) (out : List ℕ) (k : Known) : Type 0 where
  pub state : StateValue
  pub rows : AreStateRows m k.op r a state
  pub lines : AreLines r a state out k.lines

pub record Serves (m : Marks) (r : ℕ) (a : Table) (g : Operation) (out : List ℕ) (l : Lines) : Type 0 where
  pub state : StateValue
  pub rows : AreStateRows m g r a state
  pub lines : AreLines r a state out l

pub record IsState (m : Marks) (r : ℕ) (a : Table) (g : Operation) (number : ℕ) (old new : List ℕ) : Type 0 where
  pub state : StateValue
  pub rows : AreStateRows m g r a state
  pub text : new ≡ old ++ state_text number r a (marked_indices r state) (row_of state)
