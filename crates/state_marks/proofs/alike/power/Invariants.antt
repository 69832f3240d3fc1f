use Rattle.std.proofs.Common.{◌≡◌}
use Rattle.state_marks.specs.Alike.{sign_power}
use Rattle.state_marks.proofs.alike.power.Given as goal

abbrev pub invariant-loop-place : goal.invariant-loop-place
invariant-loop-place g l = l.product ≡ sign_power l.sign l._place
