use Rattle.std.proofs.Common.{◌≡◌, ◌<◌, ◌^◌, ◌∙◌, sym, subst, length, arith, refl, Ok}
use Rattle.std.specs.Prelude.{◌⊎◌}
use Rattle.tensor_defs.specs.Prelude.{ProductReaches, PartReaches, add, mul, index_of}
use Rattle.tensor_laws.proofs.ComponentNumbers.{length-index_of}
use Rattle.root3_num.specs.Roots.{value_of_root}
use Rattle.tensor_rank.specs.Flags.{marks_of}
use Rattle.tensor_action.specs.Acting.{AddsPart, tensor_of}
use Rattle.tensor_action.specs.Reaching.{AreParts, part_at}
use Rattle.tensor_action.proofs.CarryLaws.{carried-end, grows_always}
use Rattle.tensor_action.proofs.Walks.{number_below, part-factor, part_here, read_at, walk-end, walk-grows, walk-more, walk-start}
use Rattle.tensor_action.proofs.action.component_of.Goals as goal

pub loop-place-init : goal.loop-place-init
loop-place-init g c =
    let r = g.R.Rank.R in
    let i = index_of r c.args.to in
    let parts : AreParts c.args.op.now i c.as_slice-parts.result.now =
    subst (AreParts c.args.op.now i) (sym c.as_slice-parts.ensures) c.set.ensures in
    walk-start (marks_of c.args.flags) c.args.op.now r i (length-index_of r c.args.to) 1 (λ _. tensor_of c.args.t.now)
    c.as_slice-parts.result.now (λ _. c.zero-sum.result) parts (λ k h. c.zero-sum.ensures)

pub loop-place-preserved : goal.loop-place-preserved
loop-place-preserved g c =
    let r = g.R.Rank.R in
    let m = marks_of c.args.flags in
    let i = index_of r c.args.to in
    let long = length-index_of r c.args.to in
    let t = c.args.t.now in
    let ps = c.as_slice-parts.result.now in
    let k = c.loop-place.place in
    let h : k < length ps = omega (arith, c.loop-place-test.true) in
    let w = c.loop-place.invariant in
    let p = part_at ps k in
    let below : p.number < 3 ^ r = number_below m c.args.op.now r i long 1 (λ _. tensor_of t) ps k h (λ _. c.loop-place.sum) w in
    let inside : p.number < length t = subst (λ b. p.number < b) (sym (c.requires ∙ g.R.Rank.power)) below in
    let read : value_of_root c.index-t-part.result ≡ tensor_of t (index_of r p.number) =
    read_at t r p.number c.index-t-part.result below inside c.index-t-part.is in
    walk-more m c.args.op.now r i long 1 (λ _. tensor_of t) ps k h (λ _. c.loop-place.sum) w (value_of_root c.factor-factor.result)
    (part-factor m c.args.op.now r i long 1 (λ _. tensor_of t) c.sign_of-sign.result p (value_of_root c.factor-factor.result)
    c.sign_of-sign.ensures (part_here m c.args.op.now r i long 1 (λ _. tensor_of t) ps k h (λ _. c.loop-place.sum) w) c.factor-factor.ensures)
    (λ _. c.in_ok-sum.sum) (λ _ l calm. subst (λ y. AddsPart (value_of_root c.loop-place.sum) (value_of_root c.factor-factor.result) y (Ok c.in_ok-sum.sum))
    read c.in_ok-sum.ensures)

pub returns-in_err-sum-clause-grows : goal.returns-in_err-sum-clause-grows
returns-in_err-sum-clause-grows g c =
    let r = g.R.Rank.R in
    let m = marks_of c.args.flags in
    let i = index_of r c.args.to in
    let long = length-index_of r c.args.to in
    let t = c.args.t.now in
    let ps = c.as_slice-parts.result.now in
    let k = c.loop-place.place in
    let h : k < length ps = omega (arith, c.loop-place-test.true) in
    let w = c.loop-place.invariant in
    let p = part_at ps k in
    let one : 0 < 1 = omega arith in
    let below : p.number < 3 ^ r = number_below m c.args.op.now r i long 1 (λ _. tensor_of t) ps k h (λ _. c.loop-place.sum) w in
    let inside : p.number < length t = subst (λ b. p.number < b) (sym (c.requires ∙ g.R.Rank.power)) below in
    let read : value_of_root c.index-t-part.result ≡ tensor_of t (index_of r p.number) =
    read_at t r p.number c.index-t-part.result below inside c.index-t-part.is in
    grows_always c.from_residual.result _
    (walk-grows m c.args.op.now r i long 1 (λ _. tensor_of t) ps k h (λ _. c.loop-place.sum) w (value_of_root c.factor-factor.result)
    (part-factor m c.args.op.now r i long 1 (λ _. tensor_of t) c.sign_of-sign.result p (value_of_root c.factor-factor.result)
    c.sign_of-sign.ensures (part_here m c.args.op.now r i long 1 (λ _. tensor_of t) ps k h (λ _. c.loop-place.sum) w) c.factor-factor.ensures)
    0 one (subst (λ y. ProductReaches (value_of_root c.factor-factor.result) y
    ⊎ PartReaches (add (value_of_root c.loop-place.sum) (mul (value_of_root c.factor-factor.result) y))) read c.in_err-sum.ensures))

pub returns-clause-ok : goal.returns-clause-ok
returns-clause-ok g c =
    let r = g.R.Rank.R in
    let m = marks_of c.args.flags in
    let t = tensor_of c.args.t.now in
    let one : 0 < 1 = omega arith in
    carried-end m c.args.op.now r c.args.to (3 ^ r) t c.loop-place.sum refl
    (walk-end m c.args.op.now r (index_of r c.args.to) (length-index_of r c.args.to) 1 (λ _. t) c.as_slice-parts.result.now
    c.loop-place.place (λ _. c.loop-place.sum) (omega (arith, c.loop-place-test.false)) c.loop-place.invariant 0 one)
