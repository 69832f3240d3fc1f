use Rattle.std.proofs.Common.{◌≡◌, ℕ, length, vec_capacity, vec_len}
use Rattle.std.specs.Prelude.{None}
use Rattle.reduced_form.specs.Eliminated.{teller}
use Rattle.reduced_form.proofs.told.no_tellers.Given as goal

abbrev pub invariant-loop : goal.invariant-loop
invariant-loop l = record {
  len : length l.tellers.items ≡ l.counter;
  long : vec_len l.tellers ≡ l.counter;
  capacity : vec_capacity l.tellers ≡ l.unknowns;
  none : (k : ℕ) → teller l.tellers.items k ≡ None;
}
