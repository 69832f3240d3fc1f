use Rattle.list_laws.proofs.Kit.{subst, IfErr-weaker, IfOk-weaker}
use Rattle.tensor_defs.specs.Prelude.{Grows, Fits}
use Rattle.magnetic_groups.specs.Sets.{In}
use Rattle.tensor_rank.specs.Orders.{Ordering, before_of}
use Rattle.reduced_form.specs.Forms.{form_table}
use Rattle.table_answers.proofs.Told.{table_told}
use Rattle.table_answers.proofs.solving.index_table.Goals as goal

pub returns : goal.returns
returns g c = λ j shape.
    let H = In c.args.group.now in
    let is = c.index.ensures in
    table_told j g.R.Rank.R H c.solve.result
    (IfOk-weaker c.solve.result _ _ (λ f fits.
    subst (λ (o : Ordering). Fits j H (before_of o) (form_table g.R.Rank.R f)) is (fits j shape)) c.solve.ensures.fits)
    (IfOk-weaker c.solve.result _ _ (λ f calm.
    subst (λ (o : Ordering). Grows j H (before_of o) → ⊥) is (calm j shape)) c.solve.ensures.calm)
    (IfErr-weaker c.solve.result _ _ (λ e grows large.
    subst (λ (o : Ordering). Grows j H (before_of o)) is (grows large j shape)) c.solve.ensures.grows)
