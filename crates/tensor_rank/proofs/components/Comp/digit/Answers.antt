use Rattle.std.proofs.Common.{◌+◌, ◌<◌, ◌^◌, ap, sym, ◌∙◌, subst, ℕ}
use Rattle.tensor_defs.specs.Tensor.{index_of}
use Rattle.tensor_rank.specs.IndexLaws.{digit_index, digit_place, nth}
use Rattle.tensor_rank.proofs.components.Comp.digit.Goals as goal

pub returns-clause-value : goal.returns-clause-value
returns-clause-value g c =
    let r : ℕ = g.R.Rank.R in
    let below : c.args.self.now < 3 ^ r = subst (λ (x : ℕ). c.args.self.now < x) g.R.Rank.power c.axis.ensures.component in
    ap (λ x. x + 1) (c.axis.ensures.value ∙ digit_index r c.args.self.now below c.args.place c.requires)
    ∙ sym (digit_place (nth (index_of r c.args.self.now) c.args.place))
