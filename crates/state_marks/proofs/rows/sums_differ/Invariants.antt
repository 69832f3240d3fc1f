use Rattle.std.proofs.Common.{◌≡◌, ◌<◌, ℕ}
use Rattle.root3_num.specs.Roots.{value_of_root}
use Rattle.state_marks.specs.Sums.{factor_in, term_at}
use Rattle.state_marks.proofs.rows.sums_differ.Given as goal

abbrev pub invariant-loop-place : goal.invariant-loop-place
invariant-loop-place l =
    (k : ℕ) → k < l.place → value_of_root (term_at l.row k).factor ≡ factor_in l.terms (term_at l.row k).free
