use Rattle.form_lines.proofs.TextLaws.{IsMarkedUpTo}
use Rattle.voigt_table.proofs.writing.free_marks.Given as goal

abbrev pub invariant-loop-place : goal.invariant-loop-place
invariant-loop-place l = record {
  marks : IsMarkedUpTo 36 l.table.free l.place l.marks;
}
