use Rattle.list_laws.proofs.Kit.{arith, sym, subst, IsGcd, IsGcd-from_zero, IsGcd-from_mod}
use Rattle.exact_frac.proofs.Divisors.{gcd-one, gcd-positive}
use Rattle.exact_frac.proofs.divisor.gcd.Goals as goal

pub loop-y-preserved : goal.loop-y-preserved
loop-y-preserved c g h = c.loop-y.invariant g (IsGcd-from_mod _ _ g h)

pub returns-then-b-eq1-clause-divisor : goal.returns-then-b-eq1-clause-divisor
returns-then-b-eq1-clause-divisor c = subst (λ b. IsGcd c.args.a b 1) (sym c.if-b-eq1.true) (gcd-one c.args.a)

pub returns-clause-divisor : goal.returns-clause-divisor
returns-clause-divisor c = c.loop-y.invariant _ (IsGcd-from_zero _ _ (omega arith))

pub returns-clause-positive : goal.returns-clause-positive
returns-clause-positive c = gcd-positive c.args.a c.args.b _ c.requires (c.loop-y.invariant _ (IsGcd-from_zero _ _ (omega arith)))
