use Rattle.std.proofs.Common.{◌<◌, ◌-◌, refl, arith}
use Rattle.list_laws.proofs.Lists.{text_at}
use Rattle.tensor_vectors.specs.Types.{type_symbols, crystal_classes}
use Rattle.tensor_vectors.proofs.symbol_row.Goals as goal

pub returns-clause-row : goal.returns-clause-row
unfolding type_symbols crystal_classes
returns-clause-row c =
    let listed : c.args.number - 1 < 122 = omega arith in
    rw text_at refl
