use Rattle.answer_laws.proofs.Lines as law
use Rattle.answer_laws.proofs.one_answer.Goals as goal

pub returns : goal.returns
returns c = law.one_answer_lem
