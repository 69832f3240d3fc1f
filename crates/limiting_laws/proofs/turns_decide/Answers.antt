use Rattle.limiting_laws.proofs.Turns.{turns_decide_lem}
use Rattle.limiting_laws.proofs.turns_decide.Goals as goal

pub returns : goal.returns
returns c = turns_decide_lem
