use Rattle.jahn_grammar.specs.Symbols.{symbol_of}
use Rattle.magnetic_groups.specs.Sets.{In}
use Rattle.voigt_table.specs.Blocks.{sizes_of}
use Rattle.voigt_table.proofs.TableLaws.{table_told}
use Rattle.voigt_table.proofs.making.voigt.Goals as goal

pub returns-in-Ok : goal.returns-in-Ok
returns-in-Ok c =
    table_told (symbol_of c.args.jahn.now) (In c.args.group.now) (sizes_of c.in-Some.blocks) c.args.weights c.in-Ok.table
    c.in-Some.ensures c.in-Ok.ensures
