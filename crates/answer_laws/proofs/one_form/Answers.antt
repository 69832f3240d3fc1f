use Rattle.answer_laws.proofs.Forms as law
use Rattle.answer_laws.proofs.one_form.Goals as goal

pub returns : goal.returns
returns c = law.one_form_lem
