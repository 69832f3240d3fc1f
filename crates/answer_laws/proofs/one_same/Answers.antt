use Rattle.answer_laws.proofs.SameTensors as law
use Rattle.answer_laws.proofs.one_same.Goals as goal

pub returns : goal.returns
returns c = law.one_same_lem
