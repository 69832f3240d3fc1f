use Rattle.std.proofs.Common.{[]}
use Rattle.jahn_grammar.specs.Trees.{factor_of}
use Rattle.voigt_table.proofs.ShapeLaws.{first_given, not_first}
use Rattle.voigt_table.proofs.blocks.blocks_of_first.Goals as goal

pub returns-in-Some : goal.returns-in-Some
returns-in-Some c =
    first_given (factor_of c.args.factor.now) c.in-Some.piece c.blocks_of_one.result c.in-Some.ensures c.blocks_of_one.ensures

pub returns-in-None : goal.returns-in-None
returns-in-None c = not_first (factor_of c.args.factor.now) c.in-None.ensures []
