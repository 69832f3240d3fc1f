use Rattle.std.proofs.Common.{subst}
use Rattle.tensor_defs.specs.Prelude.{Grows, Fits}
use Rattle.magnetic_groups.specs.Sets.{In}
use Rattle.tensor_rank.specs.Orders.{Ordering, before_of}
use Rattle.reduced_form.specs.Forms.{FormValue, form_table}
use Rattle.voigt_table.specs.Blocks.{sizes_of}
use Rattle.voigt_table.proofs.EntryLaws.{blocks_are}
use Rattle.voigt_table.proofs.TableLaws.{blocks_told, fault_told}
use Rattle.voigt_table.proofs.making.table_at.Goals as goal

pub order-requires : goal.order-requires
order-requires g c = blocks_are c.args.blocks g.R.Rank.R c.requires.blocks

pub returns-in-Ok : goal.returns-in-Ok
returns-in-Ok g c = λ j shape.
    let H = In c.args.group.now in
    let f : FormValue = c.in-Ok.form in
    let is = c.order.ensures in
    blocks_told j c.args.group.now g.R.Rank.R g.R.Rank.LEN c.args.blocks c.args.weights f shape.rank_is g.R.Rank.power
    c.requires.blocks c.weighed_table.ensures.whole
    (subst (λ (o : Ordering). Fits j H (before_of o) (form_table g.R.Rank.R f)) is (c.in-Ok.ensures.fits j shape))
    (subst (λ (o : Ordering). Grows j H (before_of o) → ⊥) is (c.in-Ok.ensures.calm j shape))
    c.in-Ok.ensures.factors c.weighed_table.result c.weighed_table.ensures.told

pub returns-in-Err : goal.returns-in-Err
returns-in-Err g c = λ j shape.
    let H = In c.args.group.now in
    fault_told j H (sizes_of c.args.blocks) c.args.weights c.in-Err.fault (λ large.
    subst (λ (o : Ordering). Grows j H (before_of o)) c.order.ensures (c.in-Err.ensures.grows large j shape))
