use Rattle.std.proofs.Common.{arith}
use Rattle.group_closing.proofs.Reaching.{closed_more, grows_refl, grows_trans, held_at}
use Rattle.group_closing.proofs.closing.finish.Goals as goal

pub loop-next-init : goal.loop-next-init
loop-next-init c = (c.requires.closed, grows_refl c.args.marks.now c.args.found.now)

pub reach-requires-clause-reached : goal.reach-requires-clause-reached
reach-requires-clause-reached c =
    held_at c.args.generators.now c.loop-next.found c.loop-next.marks c.loop-next.next c.at-element.result
    c.loop-next.invariant.0.closing (omega arith) c.at-element.ensures

pub loop-next-preserved : goal.loop-next-preserved
loop-next-preserved c = (
  closed_more c.args.generators.now c.loop-next.next c.loop-next.marks c.reach.new.marks c.loop-next.found
      c.reach.new.found c.at-element.result c.loop-next.invariant.0 (omega arith) c.at-element.ensures
      c.reach.ensures.closing c.reach.ensures.grows c.reach.ensures.done,
  grows_trans c.args.marks.now c.loop-next.marks c.reach.new.marks c.args.found.now c.loop-next.found c.reach.new.found
      c.loop-next.invariant.1 c.reach.ensures.grows,
)
