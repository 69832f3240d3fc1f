use Rattle.std.proofs.Common.{inr}
use Rattle.dialects.proofs.Past.{past_all}
use Rattle.dialects.proofs.Plain.{named_accepted}
use Rattle.dialects.proofs.read.read_any.Goals as goal

pub returns-in-Ok-read_name : goal.returns-in-Ok-read_name
returns-in-Ok-read_name c =
    (inr (inr c.in-Ok-read_name.ensures), named_accepted c.args.word.now c.in-Ok-read_name.tree c.in-Ok-read_name.ensures)

pub returns-in-Ok-Err : goal.returns-in-Ok-Err
returns-in-Ok-Err c =
    rw (c.max-in-Ok-Err.ensures, c.max.ensures)
    (past_all c.args.word.now c.in-Err.fault.place c.in-Err-read_name.fault.place c.in-Ok-Err.fault.place c.in-Err.ensures
    c.in-Err-read_name.ensures (rw c.in-Ok-Err.field-0-is at c.in-Ok-Err.ensures))
