use Rattle.magnetic_groups.specs.Sets.{In}
use Rattle.species.specs.Species.{property_symbol}
use Rattle.species_runs.proofs.PropertyLines.{leaders_within}
use Rattle.species_runs.proofs.answers.answer_property.Goals as goal

pub write_property-requires : goal.write_property-requires
write_property-requires c =
    let s = c.args.states.now in
    leaders_within (property_symbol c.args.property) (In s.sub) s.reps c.in-Ok.species.classes c.in-Ok.ensures.classes
