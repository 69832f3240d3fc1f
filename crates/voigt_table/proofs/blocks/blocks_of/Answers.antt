use Rattle.std.proofs.Common.{List, sym, subst, ◌∙◌}
use Rattle.tensor_defs.specs.Jahn as defs
use Rattle.jahn_grammar.specs.Trees.{factor_of}
use Rattle.voigt_table.specs.Blocks.{GivesBlocks}
use Rattle.voigt_table.proofs.ShapeLaws.{one_factor, two_factors}
use Rattle.voigt_table.proofs.blocks.blocks_of.Goals as goal

pub returns-in-1 : goal.returns-in-1
returns-in-1 c =
    subst (λ (fs : List defs.Factor). GivesBlocks fs c.blocks_of_first.result)
    (sym (one_factor factor_of c.args.jahn.now.body c.at.result.now (sym c.len.ensures.count ∙ c.in-1.is) c.at.ensures.factor))
    c.blocks_of_first.ensures

pub returns-in-2 : goal.returns-in-2
returns-in-2 c =
    subst (λ (fs : List defs.Factor). GivesBlocks fs c.blocks_of_both.result)
    (sym (two_factors factor_of c.args.jahn.now.body c.at-in-2.result.now c.at-in-2-2.result.now
    (sym c.len.ensures.count ∙ c.in-2.is) c.at-in-2.ensures.factor c.at-in-2-2.ensures.factor))
    c.blocks_of_both.ensures
