use Rattle.tensor_rank.specs.Flags.{marks_of}
use Rattle.tensor_rank.proofs.DeterminantLaws.{whole_sign}
use Rattle.tensor_rank.proofs.signs.sign_of.Goals as goal

pub returns : goal.returns
returns c =
    whole_sign (marks_of c.args.flags) c.args.op.now c.axial_sign.result c.time_sign.result c.times.result c.axial_sign.ensures
    c.time_sign.ensures c.times.ensures
