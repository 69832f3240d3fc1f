use Rattle.op_matrix.proofs.Order.{frames_are_closed_lem}
use Rattle.op_matrix.proofs.frames_are_closed.Goals as goal

pub returns : goal.returns
returns c = frames_are_closed_lem
