use Rattle.check_runs.proofs.Tensors.{no_more}
use Rattle.check_runs.proofs.given.has_component.Goals as goal

pub loop-place-preserved : goal.loop-place-preserved
loop-place-preserved c =
    no_more c.args.settings.now c.loop-place.place c.args.component c.index-settings-place.result c.loop-place-test.true c.loop-place.invariant
    c.if-settings-place.false
