use Rattle.dialects.proofs.Elements.{elements}
use Rattle.dialects.proofs.laws.long_operators_are_elements.Goals as goal

pub returns : goal.returns
returns c = elements
