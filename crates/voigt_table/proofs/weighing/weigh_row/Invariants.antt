use Rattle.std.proofs.Common.{map}
use Rattle.voigt_table.specs.Blocks.{entry_at, entry_of, sizes_of}
use Rattle.voigt_table.specs.Weighing.{entry_of_place}
use Rattle.voigt_table.proofs.KeptLaws.{IsRowWeighed}
use Rattle.voigt_table.proofs.weighing.weigh_row.Given as goal

abbrev pub invariant-loop-place : goal.invariant-loop-place
invariant-loop-place l = record {
  row : IsRowWeighed l.weights (entry_of_place (sizes_of l.blocks) (map (entry_of l.blocks) l.free)) (entry_at (sizes_of l.blocks) l.number) l.fn.row l.row l.place;
}
