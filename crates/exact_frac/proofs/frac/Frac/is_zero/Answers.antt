use Rattle.std.proofs.Common.{◌∙◌, ap, sym}
use Rattle.tensor_defs.specs.Number.{value_of}
use Rattle.exact_frac.proofs.Wide.{zero_test}
use Rattle.exact_frac.proofs.frac.Frac.is_zero.Goals as goal

pub returns : goal.returns
returns c =
    let i = c.self.invariant in
    let t = zero_test c.self.inside.num c.self.inside.den i.terms.positive i.small_num in
    (λ h. sym (ap value_of c.self.view_is) ∙ t.0 h, λ e. t.1 (ap value_of c.self.view_is ∙ e))
