-- Laws of the groups of symbols.
--   AcceptedAreFramed   the group of each accepted symbol is framed
use Rattle.tensor_defs.specs.Prelude.{GroupSymbol, IsGroupSymbol, InGroup, IsAccepted, IsFramed}

abbrev pub AcceptedAreFramed : Type 0
AcceptedAreFramed = (t : GroupSymbol) → IsGroupSymbol t → IsAccepted t → IsFramed (InGroup t)
