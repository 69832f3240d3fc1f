use Rattle.text_laws.proofs.RequestUnique as law
use Rattle.text_laws.proofs.one_request.Goals as goal

pub returns : goal.returns
returns c = law.one_request_spelled
