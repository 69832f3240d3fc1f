use Rattle.tensor_laws.proofs.Products.{product_unique}
use Rattle.tensor_laws.proofs.one_product.Goals as goal

pub returns : goal.returns
returns c = product_unique
