use Rattle.std.proofs.Common.{◌<◌, refl, arith}
use Rattle.list_laws.proofs.Lists.{text_at}
use Rattle.tensor_vectors.specs.Types.{jahn_symbols}
use Rattle.tensor_vectors.proofs.jahn_row.Goals as goal

pub returns-clause-row : goal.returns-clause-row
unfolding jahn_symbols
returns-clause-row c =
    let listed : c.args.number < 8 = omega arith in
    rw text_at refl
