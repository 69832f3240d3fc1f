use Rattle.std.proofs.Common.{◌≤◌, List, ℕ, subst, arith}
use Rattle.std.proofs.lemmas.List.{take_all}
use Rattle.tensor_ports.proofs.Furthest.{past_more}
use Rattle.tensor_ports.specs.Places.{IsMost, PassesNone}
use Rattle.tensor_ports.proofs.memory.up_to_next.Goals as goal

pub loop-stop-preserved : goal.loop-stop-preserved
loop-stop-preserved c = record {
  furthest = past_more c.args.stops.now c.loop-stop.stop-index c.args.at c.args.most c.loop-stop.far c.up_to_stop-far.result c.loop-stop-test.true c.loop-stop.invariant.furthest c.up_to_stop-far.ensures.furthest;
  within = omega (arith, c.loop-stop.invariant.within, c.up_to_stop-far.ensures.within);
  some = λ more. c.up_to_stop-far.ensures.some (c.loop-stop.invariant.some more);
}

pub returns-clause-furthest : goal.returns-clause-furthest
returns-clause-furthest c =
    subst (λ (l : List ℕ). IsMost (λ n. (n ≤ c.args.most) × PassesNone l c.args.at n) c.loop-stop.far) (take_all c.loop-stop.stop-index c.args.stops.now c.loop-stop-test.false) c.loop-stop.invariant.furthest
