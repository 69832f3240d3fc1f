use Rattle.std.proofs.Common.{map}
use Rattle.voigt_table.specs.Weighing.{AreWeighed}
use Rattle.voigt_table.proofs.weighing.weigh_rows.Given as goal

abbrev pub invariant-loop-number : goal.invariant-loop-number
invariant-loop-number l = record {
  rows : AreWeighed l.blocks l.weights l.free (map (λ row. row.items) l.fn.rows.items) (map (λ row. row.items) l.rows.items) l.number;
}
