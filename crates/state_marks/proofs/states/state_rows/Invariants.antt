use Rattle.std.proofs.Common.{map, length}
use Rattle.reduced_form.specs.Forms.{form_table}
use Rattle.tensor_rank.specs.Flags.{marks_of}
use Rattle.state_marks.specs.Sums.{IsZeros}
use Rattle.state_marks.proofs.RowTells.{AreRows}
use Rattle.state_marks.proofs.states.state_rows.Given as goal

abbrev pub invariant-loop-number : goal.invariant-loop-number
invariant-loop-number g l = record {
  zeros : IsZeros (length l.form.free) l.sums;
  rows : AreRows (marks_of l.flags) l.op g.R.Rank.R (form_table g.R.Rank.R l.form) l.number (map (λ row. row.items) l.rows.items) l.marks.items;
}
