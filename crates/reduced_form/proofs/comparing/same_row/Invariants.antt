use Rattle.std.proofs.Common.{◌≡◌, ℕ, ◌<◌, get_or}
use Rattle.reduced_form.specs.declared.forms.Term.{Term}
use Rattle.reduced_form.proofs.comparing.same_row.Given as goal

abbrev pub invariant-loop-place : goal.invariant-loop-place
invariant-loop-place l = record {
  same : (k : ℕ) (d : Term) → k < l.place → get_or l.one k d ≡ get_or l.other k d;
}
