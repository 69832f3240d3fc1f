use Rattle.answer_laws.proofs.RefusalUnique as law
use Rattle.answer_laws.proofs.one_refusal.Goals as goal

pub returns : goal.returns
returns c = law.one_refusal_lem
