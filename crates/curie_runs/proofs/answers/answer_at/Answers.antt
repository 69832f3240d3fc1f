use Rattle.jahn_grammar.specs.Symbols.{symbol_of}
use Rattle.reduced_form.specs.Forms.{form_table}
use Rattle.curie_runs.proofs.answers.answer_at.Goals as goal

pub returns-in-Ok-text_of_form-clause-fits : goal.returns-in-Ok-text_of_form-clause-fits
returns-in-Ok-text_of_form-clause-fits g c = (
  form_table g.R.Rank.R c.in-Ok.form,
  c.in-Ok.ensures.fits (symbol_of c.args.jahn.now) c.requires,
  c.in-Ok-text_of_form.ensures,
)

pub returns-in-Ok-text_of_form-clause-calm : goal.returns-in-Ok-text_of_form-clause-calm
returns-in-Ok-text_of_form-clause-calm g c = c.in-Ok.ensures.calm (symbol_of c.args.jahn.now) c.requires

pub returns-clause-grows : goal.returns-clause-grows
returns-clause-grows g c = λ large. c.in-Err.ensures.grows large (symbol_of c.args.jahn.now) c.requires
