-- What is told of the components in the states.
--   StateValue      the rows of all components in a state, and which of them differ
--   TellsRow        whether the row of a component in a state is another than its row in the table
--   AreStateRows    the rows in a state, none of which grows, and the components whose rows differ
--   AreTold, SomeStateGrows    the same for the states from the second on; a row in one of them grows
--   MarksValue, TellsMarks    the table of the first state, and the same for each later state
--   MarksGrow       the elimination or a row grows
--   fault_of        why there is no table, as why there are no rows
-- Source: International Tables D 3.4.
use Rattle.std.specs.Prelude.{◌≡◌, ◌≢◌, ℕ, ◌+◌, ◌-◌, ◌<◌, ◌≤◌, ◌↔◌, ◌⊎◌, Bool, true, false, List, [], length, get_or, map, slice_get, Some, IsTrue}
use Rattle.tensor_defs.specs.Prelude.{Grows, JahnSymbol, Operation, index_before, Distinguishes, IsStateRow, RowsGrow, StateRowGrows, factor_at, state_row}
use Rattle.tensor_defs.specs.Prelude.{IsState, Fits, Table, Index, Marks, component_number}
use Rattle.tensor_defs.specs.StateRows as defs
use Rattle.reduced_form.specs.declared.memory.SolveFault.{SolveFault}
use Rattle.reduced_form.specs.declared.memory.SolveFault.TheVariants as solve
use Rattle.reduced_form.specs.Forms.{FormValue, form_table}
use Rattle.state_marks.specs.declared.faults.DifferFault.{DifferFault}
use Rattle.state_marks.specs.declared.faults.DifferFault.TheVariants.{TooLarge, NoMemory}
use Rattle.state_marks.specs.declared.rows.RootTerm.{RootTerm}
use Rattle.state_marks.specs.Sums.{root_term_of}

abbrev pub fault_of : SolveFault → DifferFault
fault_of solve.TooLarge = TooLarge
fault_of solve.NoMemory = NoMemory

pub record StateValue : Type 0 where
  pub rows : List (List RootTerm)
  pub marks : List Bool

abbrev pub row_at : StateValue → ℕ → List RootTerm
row_at s c = get_or s.rows c []

abbrev pub mark_at : StateValue → ℕ → Bool
mark_at s c = get_or s.marks c false

abbrev pub row_of : StateValue → Index → List defs.RootTerm
row_of s i = map root_term_of (row_at s (component_number i))

abbrev pub is_marked : StateValue → Index → Bool
is_marked s i = mark_at s (component_number i)

-- whether for some free component the factor is another
abbrev pub TellsRow : Marks → Operation → Table → ℕ → Index → Bool → Type 0
TellsRow m g a r i true = (k : ℕ) × (k < length a.free) × (state_row m g a r i k ≢ factor_at (a.terms i) k)
TellsRow m g a r i false = (k : ℕ) → k < length a.free → state_row m g a r i k ≡ factor_at (a.terms i) k

pub record AreStateRows (m : Marks) (g : Operation) (r : ℕ) (a : Table) (s : StateValue) : Type 0 where
  pub rows : (i : Index) → length i ≡ r → IsStateRow m g a r i (row_of s i)
  pub calm : (i : Index) → length i ≡ r → StateRowGrows m g a r i → ⊥
  pub marks : (i : Index) → length i ≡ r → TellsRow m g a r i (is_marked s i)

-- some row in the state grows
abbrev pub SomeRowGrows : Marks → Operation → ℕ → Table → Type 0
SomeRowGrows m g r a = (i : Index) × (length i ≡ r) × StateRowGrows m g a r i

-- ---- all states
pub record MarksValue : Type 0 where
  pub form : FormValue
  pub states : List StateValue

abbrev pub none : StateValue
none = record { rows = []; marks = [] }

-- state k, for k from 2 on
abbrev pub state_at : MarksValue → ℕ → StateValue
state_at m k = get_or m.states (k - 2) none

-- the rows in the states before place n, from the second on
pub record AreTold (m : Marks) (r : ℕ) (a : Table) (reps : List Operation) (n : ℕ) (states : List StateValue) : Type 0 where
  pub len : length states + 1 ≡ n
  pub each : (k : ℕ) (g : Operation) → k + 1 < n → slice_get reps (k + 1) ≡ Some g →
      AreStateRows m g r a (get_or states k none)

-- some row in some later state grows
pub record SomeStateGrows (m : Marks) (r : ℕ) (a : Table) (reps : List Operation) : Type 0 where
  pub place : ℕ
  pub rep : Operation
  pub later : 1 ≤ place
  pub at : slice_get reps place ≡ Some rep
  pub grows : SomeRowGrows m rep r a

abbrev pub TellsState : JahnSymbol → (Operation → Type 0) → ℕ → Table → Operation → StateValue → Type 0
TellsState j F r a g s =
    (i : Index) → length i ≡ r → (IsTrue (is_marked s i) ↔ Distinguishes j F g i) × IsStateRow j.marks g a r i (row_of s i)

pub record TellsMarks (j : JahnSymbol) (G F : Operation → Type 0) (r : ℕ) (reps : List Operation) (m : MarksValue) : Type 0 where
  pub fits : Fits j F index_before (form_table r m.form)
  pub each : (k : ℕ) (g : Operation) → 2 ≤ k → IsState reps k g → TellsState j F r (form_table r m.form) g (state_at m k)
  pub no_elimination : Grows j F index_before → ⊥
  pub no_row : RowsGrow j G F → ⊥

abbrev pub MarksGrow : JahnSymbol → (Operation → Type 0) → (Operation → Type 0) → Type 0
MarksGrow j G F = Grows j F index_before ⊎ RowsGrow j G F
