use Rattle.std.proofs.Common.{subst}
use lib.IntN.{pos}
use mir.Syntax.{w64}
use mir.Val.{to_z}
use Rattle.exact_frac.specs.Exact.{IsNew}
use Rattle.number_words.proofs.Quotients.{new_held, wide}
use Rattle.number_words.proofs.numbers.fraction.Goals as goal

pub unwrap-magnitude-requires : goal.unwrap-magnitude-requires
unwrap-magnitude-requires c =
    new_held c.args.num c.args.den c.new.result c.requires.positive c.requires.num c.requires.den
    (subst (λ p. IsNew p (pos c.args.den) c.new.result) (wide c.args.num c.requires.num)
    (subst (λ d. IsNew (to_z w64 c.args.num) d c.new.result) (wide c.args.den c.requires.den) c.new.ensures))
