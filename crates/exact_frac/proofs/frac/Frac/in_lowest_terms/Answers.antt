use Rattle.std.proofs.Common.{subst}
use Rattle.exact_frac.specs.Held.{IsHeld}
use Rattle.exact_frac.proofs.Parts.{held-below}
use Rattle.exact_frac.proofs.frac.Frac.in_lowest_terms.Goals as goal

pub returns-clause-below : goal.returns-clause-below
returns-clause-below c = held-below c.args.self.now (subst IsHeld c.self.view_is c.self.invariant)
