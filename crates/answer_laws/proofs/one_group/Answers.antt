use Rattle.answer_laws.proofs.Elements as law
use Rattle.answer_laws.proofs.one_group.Goals as goal

pub returns : goal.returns
returns c = law.one_group_lem
