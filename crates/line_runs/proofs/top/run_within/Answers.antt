use Rattle.list_laws.proofs.Kit.{sym, ◌∙◌, ap, subst, IfSome}
use Rattle.line_runs.specs.Outcomes.{outcome_at}
use Rattle.line_runs.specs.Runs.{Leaves}
use Rattle.line_runs.specs.declared.outcome.Outcome.{Outcome}
use Rattle.line_runs.proofs.Exits.{complete, read_fault, write_fault, never_usage}
use Rattle.line_runs.proofs.top.run_within.Goals as goal

pub returns-clause-leaves : goal.returns-clause-leaves
returns-clause-leaves g c =
    subst (λ (o : Outcome). IfSome (g.I.Source.left c.args.source.now) (λ input. Leaves c.args.limit o input
    (g.I.Source.left c.answer_all.new.source) (g.O.Sink.written c.args.sink.now) (g.O.Sink.written c.answer_all.new.sink)))
    (sym c.outcome_of.ensures) c.answer_all.ensures.leaves

pub returns-clause-read_cause : goal.returns-clause-read_cause
returns-clause-read_cause g c = λ is. c.answer_all.ensures.read (read_fault c.answer_all.result (sym c.outcome_of.ensures ∙ is))

pub returns-clause-write_cause : goal.returns-clause-write_cause
returns-clause-write_cause g c = λ is. c.answer_all.ensures.write (write_fault c.answer_all.result (sym c.outcome_of.ensures ∙ is))

pub returns-clause-no_usage : goal.returns-clause-no_usage
returns-clause-no_usage g c = λ is. never_usage c.answer_all.result (sym c.outcome_of.ensures ∙ is)

pub returns-clause-read_calm : goal.returns-clause-read_calm
returns-clause-read_calm g c = λ no. c.answer_all.ensures.read_calm (λ is. no (c.outcome_of.ensures ∙ ap outcome_at is))

pub returns-clause-write_calm : goal.returns-clause-write_calm
returns-clause-write_calm g c = λ no. c.answer_all.ensures.write_calm (λ is. no (c.outcome_of.ensures ∙ ap outcome_at is))

pub returns-clause-complete : goal.returns-clause-complete
returns-clause-complete g c = λ read write. complete _ c.args.limit c.outcome_of.result c.answer_all.result c.outcome_of.ensures _ _ _ (λ is. read (c.answer_all.ensures.read is)) (λ is. write (c.answer_all.ensures.write is)) c.answer_all.ensures.leaves
