use Rattle.std.proofs.Common.{◌<◌, length, arith}
use Rattle.list_laws.proofs.Members.{each_read}
use Rattle.tensor_rank.specs.Flags.{marks_of}
use Rattle.differ_answers.specs.Standing.{IsKnown}
use Rattle.differ_answers.proofs.StandingLaws.{serves_alike}
use Rattle.differ_answers.proofs.known.find_alike.Goals as goal

pub returns-then-act_alike : goal.returns-then-act_alike
returns-then-act_alike g c = λ a out each.
    let m = marks_of c.args.flags in
    let r = g.R.Rank.R in
    let inside : c.loop-place.place < length c.args.known.now = omega (arith, c.loop-place-test.true) in
    let earlier = c.index-known-place.result in
    serves_alike m r a c.args.op.now out earlier (c.act_alike.ensures c.if-act_alike.true)
    (each_read (IsKnown m r a out) c.args.known.now each c.loop-place.place earlier inside c.index-known-place.is)
