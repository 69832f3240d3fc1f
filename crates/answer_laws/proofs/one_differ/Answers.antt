use Rattle.answer_laws.proofs.Differences as law
use Rattle.answer_laws.proofs.one_differ.Goals as goal

pub returns : goal.returns
returns c = law.one_differ_lem
