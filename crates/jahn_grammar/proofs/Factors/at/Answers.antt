use Rattle.std.proofs.Common.{◌<◌, List, length, sym, subst}
use Rattle.tensor_defs.specs.Jahn.{IsFactor}
use Rattle.jahn_grammar.specs.declared.Factor.{Factor}
use Rattle.jahn_grammar.specs.Trees.{factor_of}
use Rattle.jahn_grammar.proofs.Trees.{factor_at}
use Rattle.jahn_grammar.proofs.Factors.at.Goals as goal

pub returns-clause-powers : goal.returns-clause-powers
returns-clause-powers c =
    let P : Factor → Type 0 = λ (f : Factor). IsFactor (factor_of f) in
    let Q : List Factor → Type 0 = λ (fs : List Factor). c.args.place < length fs in
    subst P (sym c.index.ensures) (factor_at _ _ _ (subst Q (sym c.self.view_is) c.requires) c.self.invariant)
