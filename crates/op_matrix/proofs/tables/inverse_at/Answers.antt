use Rattle.op_matrix.proofs.Facts.{inverse_code, inverse_below}
use Rattle.op_matrix.proofs.tables.inverse_at.Goals as goal

pub returns-clause-below : goal.returns-clause-below
unfolding inverse_code
returns-clause-below c = inverse_below c.args.n c.requires
