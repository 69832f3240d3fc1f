use Rattle.number_words.proofs.OneNumber.{one_number_lem}
use Rattle.number_words.proofs.laws.one_number.Goals as goal

pub returns : goal.returns
returns c = one_number_lem
