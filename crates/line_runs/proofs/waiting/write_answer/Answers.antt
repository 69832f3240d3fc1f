use Rattle.std.proofs.Common.{◌++◌, ◌∙◌, ap, subst, List, ℕ}
use Rattle.tensor_ports.specs.Bytes.{Grows}
use Rattle.line_runs.proofs.waiting.write_answer.Goals as goal

pub returns-in-Ok-write_waiting-clause-ok : goal.returns-in-Ok-write_waiting-clause-ok
returns-in-Ok-write_waiting-clause-ok g c =
    let made = c.in-Ok.ensures.answer in
    let bytes = made.grown ∙ ap (λ (l : List ℕ). l ++ made.answer) c.requires.none in (
      made.answer,
      subst (λ (l : List ℕ). Grows (g.O.Sink.written c.args.sink.now) (g.O.Sink.written c.write_waiting.new.sink) l) bytes c.in-Ok-write_waiting.ensures.ok,
      made.is_answer,
    )
