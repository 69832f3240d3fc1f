use Rattle.tensor_rank.specs.Flags.{marks_of}
use Rattle.constraint_rows.proofs.ReadingLaws.{three_stand}
use Rattle.constraint_rows.proofs.reading.plain_of.Goals as goal

pub returns : goal.returns
returns c =
    three_stand (marks_of c.args.flags) c.args.op.now _ c.requires c.row_of-first.ensures c.row_of-second.ensures c.row_of-third.ensures
    c.sign_of.ensures
