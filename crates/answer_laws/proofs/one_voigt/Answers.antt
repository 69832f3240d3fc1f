use Rattle.answer_laws.proofs.Voigts as law
use Rattle.answer_laws.proofs.one_voigt.Goals as goal

pub returns : goal.returns
returns c = law.one_voigt_lem
