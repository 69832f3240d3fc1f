use Rattle.std.proofs.Common.{◌≡◌, length, vec_capacity, vec_len}
use Rattle.reduced_form.specs.Forms.{ArePlaces}
use Rattle.reduced_form.proofs.free.places_of.Given as goal

abbrev pub invariant-loop : goal.invariant-loop
invariant-loop g l = record {
  len : length l.places.items ≡ l.counter;
  long : vec_len l.places ≡ l.counter;
  capacity : vec_capacity l.places ≡ g.R.Rank.LEN;
}

abbrev pub invariant-loop-k : goal.invariant-loop-k
invariant-loop-k g l = record {
  places : ArePlaces g.R.Rank.LEN l.free l.places.items l.k;
}
