use Rattle.dialects.specs.LongTexts.{IsFormText}
use Rattle.dialects.proofs.Past.{below_none, below_more}
use Rattle.dialects.proofs.search.read_long.Goals as goal

pub loop-place-init : goal.loop-place-init
loop-place-init c = below_none IsFormText c.args.word.now

pub loop-place-preserved : goal.loop-place-preserved
loop-place-preserved c =
    rw c.max-furthest.ensures
    (below_more IsFormText c.args.word.now c.loop-place.place c.loop-place.furthest c.in-Err.fault.place
    c.loop-place.invariant (rw c.in-Err.is at c.in_ok-tree.ensures))
