use Rattle.std.proofs.Common.{◌∙◌, ap, sym, subst}
use lib.IntN.{negsuc}
use Rattle.tensor_defs.specs.Number.{Root3, neg, whole, root_3, value_of}
use Rattle.root3_num.specs.Roots.{value_of_root, IsHeldRoot}
use Rattle.root3_num.proofs.RootParts.{neg-parts}
use Rattle.root3_num.proofs.Steps.{held-root}
use Rattle.root3_num.proofs.root.Root3.neg.Goals as goal

pub returns : goal.returns
returns c =
    let r = c.self.inside in
    subst (λ (v : Root3). IsHeldRoot (neg (value_of_root c.args.self.now)) v) (sym c.of.ensures.parts)
    (held-root _ _ _ c.neg.result c.neg-2.result c.neg.ensures.value c.neg-2.ensures.value
    (ap (λ v. neg (value_of_root v)) (sym c.self.view_is) ∙ neg-parts (value_of r.a) (value_of r.b) (whole (negsuc 0)) root_3))
