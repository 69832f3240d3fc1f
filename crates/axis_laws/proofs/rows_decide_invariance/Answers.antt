use Rattle.axis_laws.proofs.Invariance.{rows_decide_invariance_lem}
use Rattle.axis_laws.proofs.rows_decide_invariance.Goals as goal

pub returns : goal.returns
returns c = rows_decide_invariance_lem
