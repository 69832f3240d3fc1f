use Rattle.std.proofs.Common.{◌++◌, ◌∙◌, ap, List, ℕ}
use Rattle.text_defs.specs.Refusals.{refusal_text}
use Rattle.line_runs.specs.Words.{word_of}
use Rattle.tensor_cli.proofs.LineAnswers.{grown_ends, refusal_ends, slow, stop_of}
use Rattle.tensor_cli.proofs.ToldRequests.{not_comment}
use Rattle.tensor_cli.proofs.answers.answer_request.Goals as goal

pub returns-in-Ok-clause-ok : goal.returns-in-Ok-clause-ok
returns-in-Ok-clause-ok c =
    let read = c.requires.read in
    let ask = not_comment c.args.line.now c.args.request.now read.0 read.2 c.requires.other in
    grown_ends c.args.format c.args.number c.args.line.now c.args.out.now.items c.try_answer.new.out.items read.0 c.requires.short read.1
    c.requires.some c.requires.heading ask (c.in-Ok.ensures.ok read.0 read.1)

pub returns-in_ok-refuse-in-Err-Refused-clause-ok : goal.returns-in_ok-refuse-in-Err-Refused-clause-ok
returns-in_ok-refuse-in-Err-Refused-clause-ok c =
    let read = c.requires.read in
    let ask = not_comment c.args.line.now c.args.request.now read.0 read.2 c.requires.other in
    let r = c.in-Err-Refused.refusal in
    refusal_ends c.args.format c.args.number c.args.line.now c.args.out.now.items c.refuse.new.out.items read.0 (word_of r.word) r.column
    c.requires.short read.1 c.requires.some c.requires.heading ask
    (stop_of read.0 c.in-Err-Refused.field-0 r c.in-Err-Refused.field-0-is (c.in-Err-Refused.ensures.stop read.0 read.1))
    (c.in_ok-refuse-in-Err-Refused.ensures.ok
    ∙ ap (λ (out : List ℕ). out ++ refusal_text c.args.number r.column (word_of r.word)) c.in-Err-Refused.ensures.err)

pub returns-in_ok-refuse-in-Err-Refused-clause-slow : goal.returns-in_ok-refuse-in-Err-Refused-clause-slow
returns-in_ok-refuse-in-Err-Refused-clause-slow c =
    let read = c.requires.read in
    slow c.args.format c.args.number c.args.line.now read.0 c.requires.short read.1 c.requires.some c.requires.heading
    (not_comment c.args.line.now c.args.request.now read.0 read.2 c.requires.other)

pub returns-in-Ok-clause-slow : goal.returns-in-Ok-clause-slow
returns-in-Ok-clause-slow c =
    let read = c.requires.read in
    slow c.args.format c.args.number c.args.line.now read.0 c.requires.short read.1 c.requires.some c.requires.heading
    (not_comment c.args.line.now c.args.request.now read.0 read.2 c.requires.other)

pub returns-in_err-refuse-in-Err-Refused-clause-slow : goal.returns-in_err-refuse-in-Err-Refused-clause-slow
returns-in_err-refuse-in-Err-Refused-clause-slow c =
    let read = c.requires.read in
    slow c.args.format c.args.number c.args.line.now read.0 c.requires.short read.1 c.requires.some c.requires.heading
    (not_comment c.args.line.now c.args.request.now read.0 read.2 c.requires.other)

pub returns-in-Err-NoMemory-clause-slow : goal.returns-in-Err-NoMemory-clause-slow
returns-in-Err-NoMemory-clause-slow c =
    let read = c.requires.read in
    slow c.args.format c.args.number c.args.line.now read.0 c.requires.short read.1 c.requires.some c.requires.heading
    (not_comment c.args.line.now c.args.request.now read.0 read.2 c.requires.other)
