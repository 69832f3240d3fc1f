use Rattle.answer_laws.proofs.Classes as law
use Rattle.answer_laws.proofs.one_pairs.Goals as goal

pub returns : goal.returns
returns c = law.one_pairs_lem
