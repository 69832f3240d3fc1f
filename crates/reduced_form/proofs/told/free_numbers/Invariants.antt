use Rattle.std.proofs.Common.{◌≡◌, length, map, vec_capacity, vec_len}
use Rattle.reduced_form.specs.Prelude.{free_at, AreNumbers, free_places}
use Rattle.reduced_form.proofs.told.free_numbers.Given as goal

abbrev pub invariant-loop-place : goal.invariant-loop-place
invariant-loop-place l = record {
  free : l.free.items ≡ map (free_at l.unknowns) (free_places l.tellers l.place);
  long : vec_len l.numbers ≡ l.place;
  capacity : vec_capacity l.numbers ≡ length l.unknowns;
  numbers : AreNumbers l.tellers l.place l.numbers.items;
}
