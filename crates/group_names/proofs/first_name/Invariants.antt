use Rattle.std.specs.Prelude.{None, take}
use Rattle.std.specs.List.{flat_map}
use Rattle.magnetic_groups.specs.Sets.{In}
use Rattle.group_names.specs.declared.oriented.TheConstants.{ORIENTED}
use Rattle.group_names.specs.LookUps.{IsFirstNamed, oriented}
use Rattle.group_names.proofs.first_name.Given as goal

abbrev pub invariant-loop-place : goal.invariant-loop-place
invariant-loop-place l = IsFirstNamed (In l.group) (flat_map oriented (take l.place ORIENTED)) None
