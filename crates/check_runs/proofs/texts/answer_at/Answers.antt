use Rattle.std.proofs.Common.{◌∙◌}
use Rattle.jahn_grammar.specs.Symbols.{symbol_of}
use Rattle.tensor_rank.specs.Flags.{marks_of}
use Rattle.tensor_action.specs.Acting.{tensor_of}
use Rattle.check_runs.proofs.Lines.{check_text, not_grown}
use Rattle.check_runs.proofs.texts.answer_at.Goals as goal

pub returns-in-Ok-text_of-clause-text : goal.returns-in-Ok-text_of-clause-text
returns-in-Ok-text_of-clause-text g c =
    check_text (symbol_of c.args.jahn.now) c.args.group.now g.R.Rank.R (marks_of c.flags.result) (tensor_of c.args.t.now) c.whole_of-whole.result
    c.requires.shape.rank_is (c.flags.ensures ∙ c.requires.shape.marks_are) c.whole_of-whole.ensures c.args.tree.now g.R.Rank.LEN c.in-Ok.verdict _
    c.in-Ok-text_of.text.items g.R.Rank.power (c.in-Ok.ensures.verdict (symbol_of c.args.jahn.now) c.requires.shape) c.in-Ok-stabiliser.ensures.group
    c.in-Ok-text_of.ensures

pub returns-in-Ok-text_of-clause-calm : goal.returns-in-Ok-text_of-clause-calm
returns-in-Ok-text_of-clause-calm g c =
    not_grown (symbol_of c.args.jahn.now) c.args.group.now g.R.Rank.R (marks_of c.flags.result) (tensor_of c.args.t.now) c.whole_of-whole.result
    c.requires.shape.rank_is (c.flags.ensures ∙ c.requires.shape.marks_are) c.whole_of-whole.ensures
    (c.in-Ok.ensures.calm (symbol_of c.args.jahn.now) c.requires.shape) c.in-Ok-stabiliser.ensures.calm
