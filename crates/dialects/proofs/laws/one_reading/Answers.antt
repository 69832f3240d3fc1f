use Rattle.dialects.proofs.OneReading.{one_answer}
use Rattle.dialects.proofs.laws.one_reading.Goals as goal

pub returns : goal.returns
returns c = one_answer
