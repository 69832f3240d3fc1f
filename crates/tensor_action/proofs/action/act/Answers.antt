use Rattle.list_laws.proofs.Kit.{◌≡◌, ◌∙◌, subst, sym, arith, Global, Ok, Result, Vec, err_from_is_err_and, IfErr}
use Rattle.tensor_defs.specs.Prelude.{Root3, index_of}
use Rattle.tensor_rank.specs.Flags.{marks_of}
use Rattle.tensor_action.specs.Acting.{ActGrows, CarriesTo, SumGrows, factor, tensor_of}
use Rattle.tensor_action.specs.declared.faults.ActFault.{ActFault}
use Rattle.tensor_action.specs.declared.faults.ActFault.TheVariants as fault
use Rattle.tensor_action.proofs.CarryLaws.{carrying-more, carrying-grows, carrying-end}
use Rattle.tensor_action.proofs.action.act.Goals as goal

pub returns-in_err-component-clause-grows : goal.returns-in_err-component-clause-grows
returns-in_err-component-clause-grows g c =
    let r = g.R.Rank.R in
    let m = marks_of c.args.flags in
    let t = tensor_of c.args.t.now in
    let e = err_from_is_err_and c.from_residual-in_err-component.result c.from_residual-in_err-component.ensures.1 in
    subst (λ (x : Result (Vec Root3 Global) ActFault). IfErr x (λ f. f ≡ fault.TooLarge → ActGrows m c.args.op.now r t)) (sym e.1)
    (λ large. carrying-grows m c.args.op.now r t c.loop-number.number
    (subst (λ k. SumGrows r (factor m c.args.op.now (index_of r k)) t) c.at.ensures (c.in_err-component.ensures.grows (sym e.2 ∙ large))))

pub loop-number-preserved : goal.loop-number-preserved
loop-number-preserved g c =
    let r = g.R.Rank.R in
    let m = marks_of c.args.flags in
    let t = tensor_of c.args.t.now in
    carrying-more m c.args.op.now r t c.loop-number.number c.loop-number.carried.items c.push.new.self.items
    c.in_ok-component.component c.loop-number.invariant
    (subst (λ k. CarriesTo m c.args.op.now r t (index_of r k) (Ok c.in_ok-component.component)) c.at.ensures c.in_ok-component.ensures.ok)
    c.in_ok-push.ensures.items

pub returns-clause-ok : goal.returns-clause-ok
returns-clause-ok g c =
    let last : c.loop-number.number ≡ g.R.Rank.LEN = omega (arith, c.loop-number-test.false, c.LEN-number-end.ensures) in
    carrying-end (marks_of c.args.flags) c.args.op.now g.R.Rank.R c.loop-number.number g.R.Rank.LEN c.args.t.now
    c.loop-number.carried.items last g.R.Rank.power c.loop-number.invariant
