use Rattle.worked_rows.proofs.FirstRowProof as law
use Rattle.worked_rows.proofs.two_tensors.Goals as goal

pub returns : goal.returns
returns c = law.two_tensors_spelled
