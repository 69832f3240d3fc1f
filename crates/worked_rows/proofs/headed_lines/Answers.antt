use Rattle.worked_rows.proofs.FirstRowProof as law
use Rattle.worked_rows.proofs.headed_lines.Goals as goal

pub returns : goal.returns
returns c = law.lines_headed
