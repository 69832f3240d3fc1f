use Rattle.std.proofs.Common.{◌<◌, length, arith}
use Rattle.tensor_rank.specs.Flags.{marks_of}
use Rattle.given_tensors.proofs.Alike.{alike_at}
use Rattle.given_tensors.proofs.carried.place_alike.Goals as goal

pub returns-then-act_alike : goal.returns-then-act_alike
returns-then-act_alike g c =
    let inside : c.loop-place.place < length c.args.carried.now = omega (arith, c.loop-place-test.true) in
    alike_at (marks_of c.args.flags) g.R.Rank.R g.R.Rank.LEN c.args.carried.now c.args.op.now c.loop-place.place
    c.index-carried-place.result inside c.index-carried-place.is (c.act_alike.ensures c.if-act_alike.true)
