-- The factor at a place of a list that keeps the rule on powers.
use Rattle.std.proofs.Common.{ℕ, zero, suc, ◌<◌, List, [], ◌∷◌, length, get_or, arith}
use Rattle.tensor_defs.specs.Jahn.{IsFactor}
use Rattle.jahn_grammar.specs.declared.Factor.{Factor}
use Rattle.jahn_grammar.specs.Trees.{factor_of, AreFactorTrees}

pub factor_at : (fs : List Factor) (k : ℕ) (d : Factor) → k < length fs → AreFactorTrees fs →
    IsFactor (factor_of (get_or fs k d))
factor_at [] k d lt h = absurd (omega arith)
factor_at (f ∷ fs) zero d lt h = h.0
factor_at (f ∷ fs) (suc k) d lt h = factor_at fs k d (omega arith) h.1
