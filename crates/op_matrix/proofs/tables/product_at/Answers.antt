use Rattle.op_matrix.proofs.Products.{product_code, product_code_below}
use Rattle.op_matrix.proofs.tables.product_at.Goals as goal

pub returns-clause-below : goal.returns-clause-below
unfolding product_code
returns-clause-below c = product_code_below c.args.n c.args.m c.requires.left c.requires.right
