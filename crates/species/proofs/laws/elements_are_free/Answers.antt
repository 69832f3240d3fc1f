use Rattle.magnetic_groups.specs.Sets.{In}
use Rattle.species.proofs.ToldApart.{elements_free}
use Rattle.species.proofs.laws.elements_are_free.Goals as goal

pub returns : goal.returns
returns c = λ j fs reps. elements_free j (In fs) reps
