use Rattle.std.proofs.Common.{◌≡◌, ◌≤◌, length, map, take}
use Rattle.reduced_form.specs.Eliminated.{whole_of}
use Rattle.reduced_form.proofs.sparse.sparse_row.Given as goal

abbrev pub invariant-loop-place : goal.invariant-loop-place
invariant-loop-place g l = record {
  made : l.entries.items ≡ map (whole_of l.places) (take l.place l.row);
  within : l.place ≤ length l.row;
}
