-- What is told where there are no states.
--   IsRefusal   an element of the second group isn't in the first, and the least place of one, counted from 1; or the
--               second group lies in the first, and memory was refused
use Rattle.std.specs.Prelude.{ℕ, ◌≤◌, ◌-◌, List}
use Rattle.tensor_defs.specs.Operation.{Operation}
use Rattle.magnetic_groups.specs.Sets.{IsWithin, IsFirstOutside}
use Rattle.coset_states.specs.declared.StateFault.{StateFault}
use Rattle.coset_states.specs.declared.StateFault.TheVariants.{NotSubgroup, NoMemory}

abbrev pub IsRefusal : List Operation → List Operation → StateFault → Type 0
IsRefusal g f (NotSubgroup first) = (1 ≤ first) × IsFirstOutside f g (first - 1)
IsRefusal g f NoMemory = IsWithin f g
