use Rattle.tensor_cli.proofs.Outcomes.{answered_becomes}
use Rattle.tensor_cli.proofs.told.tell_request.Goals as goal

pub returns-in-Ok : goal.returns-in-Ok
returns-in-Ok c = λ number.
    let read = c.requires.read in
    answered_becomes number c.args.line.now c.args.out.now.items c.try_answer.new.out.items read.0 c.kind.result c.in-Ok.free
    c.requires.some c.requires.short read.1 (c.kind.ensures c.args.line.now read.0 read.2) (c.in-Ok.ensures.ok read.0 read.1)
    (c.in-Ok.ensures.free read.0 read.1)
