use Rattle.std.proofs.Common.{◌∙◌, ap, List, Bool, length, subst, sym}
use Rattle.magnetic_groups.specs.Sets.{In}
use Rattle.reduced_form.proofs.ToldLaws.{err_same}
use Rattle.species.specs.Told.{AreCarried}
use Rattle.species.proofs.KindLaws.{kind_told}
use Rattle.species.proofs.species.species_at.Goals as goal

pub returns-in_err-carried-clause-grows : goal.returns-in_err-carried-clause-grows
returns-in_err-carried-clause-grows g c =
    err_same c.from_residual.result c.in_err-carried.field-0.0 _ c.from_residual.ensures.1 c.in_err-carried.ensures.grows

pub leaders_of-requires : goal.leaders_of-requires
leaders_of-requires g c = ap length c.deref.ensures.value ∙ c.in_ok-carried.ensures.sized

pub returns-clause-classes : goal.returns-clause-classes
returns-clause-classes g c = λ j shape.
    let s = c.args.states.now in
    c.in_ok-classes.ensures j (subst (λ (fs : List Bool). AreCarried j (In s.sub) s.reps fs) (sym c.deref.ensures.value)
    (c.in_ok-carried.ensures.carried j shape))

pub returns-clause-kind : goal.returns-clause-kind
returns-clause-kind g c = λ j shape.
    let s = c.args.states.now in
    kind_told j (In s.sub) s.reps c.count-count.ensures.groups.1.one c.in_ok-classes.classes
    (c.in_ok-classes.ensures j (subst (λ (fs : List Bool). AreCarried j (In s.sub) s.reps fs) (sym c.deref.ensures.value)
    (c.in_ok-carried.ensures.carried j shape))) c.kind_of-kind.result c.kind_of-kind.ensures
