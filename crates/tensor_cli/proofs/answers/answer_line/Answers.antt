use Rattle.std.proofs.Common.{arith, length, ◌<◌}
use Rattle.text_defs.specs.Requests.{longest_line}
use Rattle.tensor_cli.proofs.LineAnswers.{long_ends}
use Rattle.tensor_cli.proofs.answers.answer_line.Goals as goal

pub returns-then-line-longest-clause-ok : goal.returns-then-line-longest-clause-ok
returns-then-line-longest-clause-ok c =
    let long = c.in_ok-refuse_long.ensures.ok in
    let more : longest_line c.args.format < length c.args.line.now = omega (arith, c.if-line-longest.true, c.longest.ensures) in
    long_ends c.args.format c.args.number c.args.line.now c.args.out.now.items c.refuse_long.new.out.items long.0 more
    (long.2 c.args.line.now more) long.1
