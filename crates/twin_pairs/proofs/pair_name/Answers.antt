use Rattle.tensor_laws.proofs.Sets.{name_same}
use Rattle.magnetic_groups.specs.Sets.{In}
use Rattle.twin_pairs.proofs.pair_name.Goals as goal

pub returns-then-is_subset : goal.returns-then-is_subset
returns-then-is_subset c =
    let w = c.is_subset.ensures.0 c.if-is_subset.true in
    name_same (In c.args.sub.now) (In c.args.pair_group.now) c.args.sub_name.now (λ k. (w k, c.requires.below k)) c.requires.named
