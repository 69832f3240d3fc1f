use Rattle.worked_rows.proofs.FirstRowProof as law
use Rattle.worked_rows.proofs.marked_factors.Goals as goal

pub returns : goal.returns
returns c = law.factors_marked
