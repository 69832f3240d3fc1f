use Rattle.std.proofs.Common.{refl}
use Rattle.tensor_cli.proofs.Outcomes.{syntax_becomes}
use Rattle.tensor_cli.proofs.told.TellerAnswers.answer.Goals as goal

pub returns-in-Err : goal.returns-in-Err
returns-in-Err c =
    syntax_becomes c.args.arg2 c.args.line.now c.in-Err.field-0.place _ c.requires.some c.requires.short c.in-Err.ensures refl
