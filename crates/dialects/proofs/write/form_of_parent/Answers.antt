use Rattle.std.proofs.Common.{arith}
use Rattle.dialects.proofs.Pieces.{no_form}
use Rattle.dialects.proofs.write.form_of_parent.Goals as goal

pub returns : goal.returns
returns c = no_form c.args.number (λ j lt. c.loop-place.invariant j (omega arith))
