use Rattle.std.proofs.Common.{subst}
use Rattle.jahn_grammar.specs.Symbols.{symbol_of}
use Rattle.tensor_rank.specs.AnyShapes.{IsAnyShapeOf}
use Rattle.voigt_table.proofs.making.table_of.Goals as goal

pub returns-in-Zero-at_rank : goal.returns-in-Zero-at_rank
returns-in-Zero-at_rank c =
    c.table_at.ensures (symbol_of c.args.jahn.now) (subst (λ s. IsAnyShapeOf (symbol_of c.args.jahn.now) s) c.in-Zero-at_rank.is c.in-Ok.ensures)

pub returns-in-One-at_rank : goal.returns-in-One-at_rank
returns-in-One-at_rank c =
    c.table_at-in-Ok.ensures (symbol_of c.args.jahn.now) (subst (λ s. IsAnyShapeOf (symbol_of c.args.jahn.now) s) c.in-One-at_rank.is c.in-Ok.ensures)

pub returns-in-Five-at_rank : goal.returns-in-Five-at_rank
returns-in-Five-at_rank c =
    c.table_at-in-Ok-5.ensures (symbol_of c.args.jahn.now) (subst (λ s. IsAnyShapeOf (symbol_of c.args.jahn.now) s) c.in-Five-at_rank.is c.in-Ok.ensures)
