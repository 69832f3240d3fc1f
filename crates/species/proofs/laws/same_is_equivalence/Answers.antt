use Rattle.magnetic_groups.specs.Sets.{In}
use Rattle.species.proofs.ToldApart.{apart_back, joined, not_own}
use Rattle.species.proofs.laws.same_is_equivalence.Goals as goal

pub returns : goal.returns
returns c = λ j fs reps one. record {
  own = not_own j (In fs) reps;
  back = λ k l none a. none (apart_back j (In fs) reps l k a);
  joined = joined j (In fs) reps one;
}
