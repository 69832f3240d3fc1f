use Rattle.sparse_rows.specs.KeptRows.{kepts}
use Rattle.reduced_form.specs.Eliminated.{ArePivots}
use Rattle.reduced_form.proofs.told.tellers_of.Given as goal

abbrev pub invariant-loop-place : goal.invariant-loop-place
invariant-loop-place l = record {
  pivots : ArePivots l.unknowns (kepts l.kept) l.tellers.items l.place;
}
