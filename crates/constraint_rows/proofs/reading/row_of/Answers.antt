use Rattle.std.proofs.Common.{ℕ, Bool, sym, subst}
use Rattle.tensor_defs.specs.Operation.{value}
use Rattle.op_matrix.specs.View.{axis}
use Rattle.constraint_rows.specs.Reading.{RowReads, unit_column}
use Rattle.constraint_rows.proofs.ReadingLaws.{row_reads}
use Rattle.constraint_rows.proofs.reading.row_of.Goals as goal

pub returns : goal.returns
returns c =
    let f = value c.args.op.now (axis c.args.row) in
    subst (λ (n : ℕ). RowReads f n c.row_negates.result) (sym c.unit_column.ensures)
    (subst (λ (b : Bool). RowReads f (unit_column c.entry-first.result c.entry-second.result) b) (sym c.row_negates.ensures)
    (row_reads c.args.op.now (axis c.args.row) c.entry-first.result c.entry-second.result c.entry-third.result c.requires.plain
    c.entry-first.ensures c.entry-second.ensures c.entry-third.ensures))
