use Rattle.group_symbol.proofs.SuffixRows.{Rows}
use Rattle.group_symbol.proofs.read.read_suffix.Given as goal

abbrev pub invariant-loop-row : goal.invariant-loop-row
invariant-loop-row l = Rows l.parent l.word l.row l.place
