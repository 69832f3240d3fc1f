use Rattle.answer_laws.proofs.DomainStates as law
use Rattle.answer_laws.proofs.one_states.Goals as goal

pub returns : goal.returns
returns c = law.one_states_lem
