use Rattle.list_laws.proofs.Kit.{◌+◌, ℕ, length, ap, arith, subst, sym, ◌∙◌, false≢true}
use Rattle.species.proofs.Counting.{IsCounting, counting_done, counting_on, counting_one}
use Rattle.species.proofs.leaders.Leaders.different.Goals as goal
use Rattle.species.proofs.leaders.Leaders.different.Goals.{then-has, else-has}

pub loop-place-preserved : goal.loop-place-preserved
loop-place-preserved c =
    let ls = c.args.self.now in
    let n = c.loop-place.place in
    elim c.if-has.branch as (λ _. IsCounting ls (n + 1) c.if-has.count) [
      | then-has w ↦
          subst (λ (k : ℕ). IsCounting ls (n + 1) k) (sym w.count-is)
          (counting_one ls n c.loop-place.count c.loop-place.invariant (c.has.ensures.0 w.if-has.true))
      | else-has w ↦
          subst (λ (k : ℕ). IsCounting ls (n + 1) k) (sym w.count-is)
          (counting_on ls n c.loop-place.count c.loop-place.invariant (λ h. false≢true (sym w.if-has.false ∙ c.has.ensures.1 h)))
    ]

pub returns : goal.returns
returns c =
    counting_done c.args.self.now c.loop-place.place c.loop-place.count c.loop-place.invariant c.requires
    (let same = ap length c.self.view_is in omega (arith, same))
