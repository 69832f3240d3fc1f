use Rattle.worked_rows.proofs.FirstLine as row
use Rattle.worked_rows.proofs.first_line_not_refused.Goals as goal

pub returns : goal.returns
returns c = row.first_line_not_refused
