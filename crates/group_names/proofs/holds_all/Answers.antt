use Rattle.std.proofs.Common.{arith, refl}
use Rattle.magnetic_groups.proofs.Members.{inside_more, inside_all}
use Rattle.group_names.proofs.Names.{outside_told, all_told}
use Rattle.group_names.proofs.holds_all.Goals as goal

pub loop-operation-preserved : goal.loop-operation-preserved
loop-operation-preserved c = inside_more c.args.operations.now c.args.group.now c.loop-operation.operation-index c.operation-item.result (omega arith) c.operation-item.is (c.has.ensures.0 c.if-not-has.false) c.loop-operation.invariant

pub returns : goal.returns
returns c = all_told c.args.group.now c.args.operations.now (inside_all c.args.operations.now c.args.group.now c.args.operations.now c.loop-operation.operation-index refl (omega arith) c.loop-operation.invariant)

pub returns-then-not-has : goal.returns-then-not-has
returns-then-not-has c = outside_told c.args.group.now c.args.operations.now c.loop-operation.operation-index c.operation-item.result c.has.result (omega arith) c.operation-item.is c.has.ensures c.if-not-has.true
