use Rattle.tensor_laws.proofs.Associativity.{product_assoc}
use Rattle.tensor_laws.proofs.products_associate.Goals as goal

pub returns : goal.returns
returns c = product_assoc
