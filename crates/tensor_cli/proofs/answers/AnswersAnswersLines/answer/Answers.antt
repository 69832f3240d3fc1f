use Rattle.std.proofs.Common.{◌++◌, ◌∙◌, ap}
use Rattle.text_defs.specs.Refusals.{refusal_text}
use Rattle.line_runs.specs.Words.{word_of}
use Rattle.line_runs.specs.declared.refusals.Refusal.{Refusal}
use Rattle.tensor_cli.proofs.LineAnswers.{syntax_ends}
use Rattle.tensor_cli.proofs.answers.AnswersAnswersLines.answer.Goals as goal

pub returns-in_ok-refuse-in-Err-clause-ok : goal.returns-in_ok-refuse-in-Err-clause-ok
returns-in_ok-refuse-in-Err-clause-ok c =
    syntax_ends c.args.format c.args.number c.args.line.now c.args.out.now.items c.refuse.new.out.items c.in-Err.fault.place c.requires
    c.if-says_nothing.ensures.0 c.if-says_nothing.ensures.1 c.in-Err.ensures
    (c.in_ok-refuse-in-Err.ensures.ok
    ∙ ap (λ (r : Refusal). c.args.out.now.items ++ refusal_text c.args.number r.column (word_of r.word)) c.at.ensures)

pub returns-in-Ok : goal.returns-in-Ok
returns-in-Ok c = record {
  ok = c.answer_request.ensures.ok;
  err = c.answer_request.ensures.err;
  room = λ enough quick. absurd (c.answer_request.ensures.slow quick);
  capacity = c.answer_request.ensures.capacity;
}
