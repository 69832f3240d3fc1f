use Rattle.std.proofs.Common.{arith}
use Rattle.group_names.proofs.PrimePatterns.{turning_none, turning_more, turning_done}
use Rattle.group_names.proofs.turned_bits.Goals as goal

pub loop-digit-init : goal.loop-digit-init
loop-digit-init c = turning_none c.args.count c.args.number

pub loop-digit-preserved : goal.loop-digit-preserved
loop-digit-preserved c = turning_more c.args.count c.args.number c.loop-digit._digit c.loop-digit.turned c.loop-digit.rest c.loop-digit.invariant

pub returns-clause-is : goal.returns-clause-is
returns-clause-is c = turning_done c.args.count c.args.number c.loop-digit._digit c.loop-digit.turned c.loop-digit.rest c.loop-digit.invariant (omega arith)
