use Rattle.magnetic_groups.proofs.SymbolFrames.{group_framed}
use Rattle.magnetic_groups.proofs.build.accepted_are_framed.Goals as goal

pub returns : goal.returns
returns c = λ t i a. group_framed t i
