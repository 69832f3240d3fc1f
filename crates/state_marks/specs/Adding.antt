-- The sums of a component in a state.
--   AreSummed       for each free component the sum of all parts, none of which grows
--   IsRow           the row of a component, and whether it differs from that in the table
use Rattle.std.specs.Prelude.{◌≡◌, ℕ, ◌<◌, Bool, List, length, map}
use Rattle.tensor_defs.specs.Prelude.{Root3, Operation, IsStateRow, StateRowGrows, state_row, Table, Index, Marks}
use Rattle.state_marks.specs.Sums.{root_term_of, sum_at}
use Rattle.state_marks.specs.Told.{TellsRow}
use Rattle.state_marks.specs.declared.rows.RootTerm.{RootTerm}

pub record AreSummed (m : Marks) (g : Operation) (r : ℕ) (a : Table) (i : Index) (sums : List Root3) : Type 0 where
  pub len : length sums ≡ length a.free
  pub each : (k : ℕ) → k < length a.free → sum_at sums k ≡ state_row m g a r i k
  pub calm : StateRowGrows m g a r i → ⊥

-- the row of a component in a state, that it doesn't grow, and whether it differs from that in the table
pub record IsRow (m : Marks) (g : Operation) (r : ℕ) (a : Table) (i : Index) (ts : List RootTerm) (marked : Bool) : Type 0 where
  pub row : IsStateRow m g a r i (map root_term_of ts)
  pub calm : StateRowGrows m g a r i → ⊥
  pub marks : TellsRow m g a r i marked
