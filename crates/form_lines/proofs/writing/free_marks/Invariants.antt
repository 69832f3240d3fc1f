use Rattle.std.proofs.Common.{◌≡◌, ℕ, length, get_or, false}
use Rattle.form_lines.proofs.TextLaws.{IsMarkedUpTo}
use Rattle.form_lines.proofs.writing.free_marks.Given as goal

abbrev pub invariant-loop : goal.invariant-loop
invariant-loop g l = record {
  len : length l.marks.items ≡ l.counter;
  none : (c : ℕ) → get_or l.marks.items c false ≡ false;
}

abbrev pub invariant-loop-place : goal.invariant-loop-place
invariant-loop-place g l = record {
  marks : IsMarkedUpTo g.R.Rank.LEN l.form.free l.place l.marks.items;
}
