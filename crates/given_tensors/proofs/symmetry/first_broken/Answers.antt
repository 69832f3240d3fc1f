use Rattle.list_laws.proofs.Kit.{◌≡◌, subst, sym, arith, inl, inr, cases_lt}
use Rattle.tensor_rank.specs.Shapes.{IsShapeOf}
use Rattle.tensor_action.specs.Acting.{tensor_of}
use Rattle.given_tensors.specs.Verdicts.{Follows}
use Rattle.given_tensors.proofs.Symmetric.{symmetric_kept}
use Rattle.given_tensors.proofs.symmetry.first_broken.Goals as goal

pub loop-number-preserved : goal.loop-number-preserved
loop-number-preserved g c = λ d h j is. elim (cases_lt d c.loop-number.number) [
  | inl before ↦ c.loop-number.invariant d before j is
  | inr after ↦ (let same : c.loop-number.number ≡ d = omega arith in
      subst (λ k. Follows j g.R.Rank.R (tensor_of c.args.t.now) k) same
      (subst (λ k. Follows j g.R.Rank.R (tensor_of c.args.t.now) k) c.at.ensures
      (rw c.if-not-follows.false at (c.follows.ensures j (subst (IsShapeOf j g.R.Rank.R) (sym c.in-Ok.ensures) is)))))
]

pub returns-clause-found : goal.returns-clause-found
returns-clause-found g c = λ j is.
    symmetric_kept j g.R.Rank.R g.R.Rank.LEN g.R.Rank.power is.rank_is (tensor_of c.args.t.now)
    (λ d h. c.loop-number.invariant d (omega (arith, c.loop-number-test.false, c.LEN-number-end.ensures)) j is)
