use Rattle.std.proofs.Common.{◌≡◌, ◌≤◌, length, map, take}
use Rattle.reduced_form.specs.Eliminated.{entry_term}
use Rattle.reduced_form.proofs.told.terms_of.Given as goal

abbrev pub invariant-loop-entry : goal.invariant-loop-entry
invariant-loop-entry l = record {
  made : l.row.items ≡ map (entry_term l.numbers l.sign) (take l.entry-index l.sum);
  within : l.entry-index ≤ length l.sum;
}
