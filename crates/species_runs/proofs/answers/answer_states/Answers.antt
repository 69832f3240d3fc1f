use Rattle.std.proofs.lemmas.Result.{err_from_is_err_and}
use Rattle.magnetic_groups.specs.Sets.{In}
use Rattle.species.specs.declared.properties.Property.TheVariants.{Elastic, Magnetic}
use Rattle.species_runs.proofs.PropertyLines.{none_grows}
use Rattle.species_runs.proofs.answers.answer_states.Goals as goal

pub returns-in_err-answer_property-2-clause-grows : goal.returns-in_err-answer_property-2-clause-grows
returns-in_err-answer_property-2-clause-grows c =
    let p = err_from_is_err_and c.from_residual-in_err-answer_property-2.result c.from_residual-in_err-answer_property-2.ensures.1 in
    rw (p.1, p.2) (λ large. (Elastic, c.in_err-answer_property-2.ensures.grows large))

pub returns-in_err-answer_property-3-clause-grows : goal.returns-in_err-answer_property-3-clause-grows
returns-in_err-answer_property-3-clause-grows c =
    let p = err_from_is_err_and c.from_residual-in_err-answer_property-3.result c.from_residual-in_err-answer_property-3.ensures.1 in
    rw (p.1, p.2) (λ large. (Magnetic, c.in_err-answer_property-3.ensures.grows large))

pub returns-clause-calm : goal.returns-clause-calm
returns-clause-calm c =
    let s = c.args.states.now in
    none_grows (In s.whole) (In s.sub) c.in_ok-answer_property.ensures.calm c.in_ok-answer_property-2.ensures.calm
    c.in_ok-answer_property-3.ensures.calm
