use Rattle.std.proofs.Common.{arith, refl}
use Rattle.group_closing.proofs.Doubling.{doubled_none, doubled_more, doubled_common}
use Rattle.group_closing.proofs.greedy.Span.double.Goals as goal

pub loop-place-init : goal.loop-place-init
loop-place-init c =
    (refl, doubled_none c.args.self.now.taken c.args.self.now.found c.args.self.now.marks c.args.operation.now c.requires.span)

pub product-requires : goal.product-requires
product-requires c =
    doubled_common c.args.self.now.taken c.args.self.now.found c.loop-place.self.found c.args.self.now.marks
    c.loop-place.self.marks c.loop-place.place c.args.operation.now c.at-element.result c.requires.span c.requires.frame
    c.loop-place.invariant.1 (omega arith) c.at-element.ensures

pub loop-place-preserved : goal.loop-place-preserved
loop-place-preserved c = (
  c.loop-place.invariant.0,
  doubled_more c.args.self.now.taken c.args.self.now.found c.loop-place.self.found c.add.new.found c.args.self.now.marks
      c.loop-place.self.marks c.add.new.marks c.loop-place.place c.args.operation.now c.at-element.result
      c.product.result c.requires.span c.requires.frame c.requires.new c.loop-place.invariant.1 (omega arith)
      c.at-element.ensures c.product.ensures.is c.add.ensures,
)
