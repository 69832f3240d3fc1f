use Rattle.limiting_laws.proofs.Groups.{turning_rows_decide_lem}
use Rattle.limiting_laws.proofs.turning_rows_decide.Goals as goal

pub returns : goal.returns
returns c = turning_rows_decide_lem
