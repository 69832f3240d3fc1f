use Rattle.state_marks.proofs.AlikeLaws.{power-more}
use Rattle.state_marks.proofs.alike.power.Goals as goal

pub loop-place-preserved : goal.loop-place-preserved
loop-place-preserved g c =
    power-more c.args.sign c.loop-place._place c.loop-place.product c.times-product.result c.loop-place.invariant c.times-product.ensures
