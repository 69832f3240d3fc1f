use Rattle.given_tensors.proofs.Kept.{grown_not, grown_told}
use Rattle.given_tensors.proofs.stabilisers.grown.Goals as goal

pub returns-then-has : goal.returns-then-has
returns-then-has c = grown_not c.args.kept c.args.op.now c.requires (c.has.ensures.0 c.if-has.true)

pub returns : goal.returns
returns c = grown_told c.args.kept c.args.op.now c.requires c.joined.result c.joined.ensures
