use Rattle.dialects.proofs.OneLongText.{one_long_text}
use Rattle.dialects.proofs.laws.one_long_text.Goals as goal

pub returns : goal.returns
returns c = one_long_text
