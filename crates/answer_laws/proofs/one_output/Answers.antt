use Rattle.answer_laws.proofs.Outputs as law
use Rattle.answer_laws.proofs.one_output.Goals as goal

pub returns : goal.returns
returns c = law.one_output_lem
