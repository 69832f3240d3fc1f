use Rattle.std.proofs.Common.{arith}
use Rattle.group_closing.proofs.CosetClosing.{adding_none, adding_more, in_front}
use Rattle.group_closing.proofs.joining.add_coset.Goals as goal

pub loop-place-init : goal.loop-place-init
loop-place-init c =
    adding_none c.args.first.now c.args.order c.args.marks.now c.args.found.now c.requires.sized c.requires.counted c.requires.new

pub product-requires : goal.product-requires
product-requires c =
    c.requires.frame c.at-element.result
    (in_front c.args.first.now c.args.order c.loop-place.place c.loop-place.place c.args.marks.now c.loop-place.marks c.args.found.now
    c.loop-place.found c.at-element.result c.loop-place.invariant (omega arith) c.requires.within c.at-element.ensures)

pub loop-place-preserved : goal.loop-place-preserved
loop-place-preserved c =
    adding_more c.args.first.now c.args.order c.loop-place.place c.args.marks.now c.loop-place.marks c.add.new.marks
    c.args.found.now c.loop-place.found c.add.new.found c.at-element.result c.product.result c.loop-place.invariant
    (omega arith) c.requires.within c.at-element.ensures c.product.ensures.is c.add.ensures
