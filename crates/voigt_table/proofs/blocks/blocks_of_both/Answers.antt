use Rattle.list_laws.proofs.Kit.{subst, [], ◌∷◌}
use Rattle.std.specs.Prelude.{Option}
use Rattle.jahn_grammar.specs.Trees.{factor_of}
use Rattle.voigt_table.specs.declared.blocks.Piece.{Piece}
use Rattle.voigt_table.specs.Blocks.{TellsPiece}
use Rattle.voigt_table.proofs.ShapeLaws.{both_given, not_first, not_second}
use Rattle.voigt_table.proofs.blocks.blocks_of_both.Goals as goal

pub returns-in-Some-Some : goal.returns-in-Some-Some
returns-in-Some-Some c =
    both_given (factor_of c.args.first.now) (factor_of c.args.second.now) c.in-Some-Some.one c.in-Some-Some.other
    c.blocks_of_two.result c.in-Some-Some.ensures c.in-Some-Some.ensures' c.blocks_of_two.ensures

pub returns-in_default : goal.returns-in_default
returns-in_default c = not_second (factor_of c.args.first.now) (factor_of c.args.second.now) c.in_default.ensures'

pub returns-in_default-2 : goal.returns-in_default-2
returns-in_default-2 c =
    not_first (factor_of c.args.first.now)
    (subst (λ (o : Option Piece). TellsPiece (factor_of c.args.first.now) o) c.in_default.is-0 c.piece_of.ensures)
    (factor_of c.args.second.now ∷ [])
