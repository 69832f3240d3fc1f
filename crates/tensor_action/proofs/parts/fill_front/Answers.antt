use Rattle.std.proofs.Common.{◌-◌, ◌/◌, ◌∙◌, take, ap, sym, subst, arith}
use Rattle.tensor_defs.specs.Tensor.{index_of}
use Rattle.tensor_action.specs.Reaching.{AreParts, IsFront}
use Rattle.tensor_action.proofs.Reach.{front-index}
use Rattle.tensor_action.proofs.parts.fill_front.Goals as goal

pub returns-then-is_held-clause-parts : goal.returns-then-is_held-clause-parts
returns-then-is_held-clause-parts g c =
    let r = g.R.Rank.R in
    let ps = c.args.parts.now.items in
    let front = front-index r c.args.to c.requires.rank (omega (arith, c.number-number.ensures.same, c.number-number.ensures.in_range, g.R.Rank.power)) in
    let same = front ∙ ap (λ n. index_of (r - 1) (n / 3)) (sym c.number-number.ensures.same) in
    subst (λ js. AreParts c.args.op.now js ps) (sym same)
    (subst (λ h. IsFront r h ps) (c.is_held.ensures c.if-is_held.true) c.requires.held)

pub returns-clause-held : goal.returns-clause-held
returns-clause-held g c =
    let r = g.R.Rank.R in
    let front = front-index r c.args.to c.requires.rank (omega (arith, c.number-number.ensures.same, c.number-number.ensures.in_range, g.R.Rank.power)) in
    subst (λ js. AreParts c.args.op.now js c.fill.new.parts.items)
    (ap (λ n. take (n - 1) (index_of r c.args.to)) c.R.ensures ∙ front ∙ ap (λ n. index_of (r - 1) (n / 3)) (sym c.number-number.ensures.same))
    c.fill.ensures.parts
