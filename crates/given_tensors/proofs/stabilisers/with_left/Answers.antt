use Rattle.std.proofs.Common.{refl, inr}
use Rattle.tensor_rank.specs.Flags.{marks_of}
use Rattle.tensor_action.specs.Acting.{tensor_of}
use Rattle.given_tensors.proofs.Kept.{changed_not}
use Rattle.given_tensors.proofs.stabilisers.with_left.Goals as goal

pub returns-in-Ok-Some-clause-step : goal.returns-in-Ok-Some-clause-step
returns-in-Ok-Some-clause-step g c =
    inr (
      changed_not (marks_of c.args.flags) g.R.Rank.R g.R.Rank.LEN (tensor_of c.args.t.now) c.args.op.now c.in-Ok-Some._component
          (rw c.in-Ok-Some.field-0-is at c.in-Ok-Some.ensures.ok),
      refl,
    )
