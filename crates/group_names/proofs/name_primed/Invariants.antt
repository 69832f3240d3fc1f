use Rattle.std.specs.Prelude.{None, take, ◌^◌, ◌-◌}
use Rattle.std.specs.List.{flat_map}
use Rattle.tensor_defs.specs.Prelude.{up_to, operator_count}
use Rattle.magnetic_groups.specs.Sets.{In}
use Rattle.group_names.specs.LookUps.{IsFirstNamed, pattern}
use Rattle.group_names.proofs.name_primed.Given as goal

abbrev pub invariant-loop-place : goal.invariant-loop-place
invariant-loop-place l = IsFirstNamed (In l.group) (flat_map (pattern l.parent l.setting) (take l.place (up_to (2 ^ operator_count l.parent - 1)))) None
