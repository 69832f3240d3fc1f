use Rattle.std.proofs.Common.{ℕ, Vec, Global}
use Rattle.std.specs.Prelude.{map, string_bytes}
use Rattle.jahn_grammar.specs.Symbols.{symbol_of}
use Rattle.check_runs.proofs.Refusing.{answered_tensor}
use Rattle.check_runs.proofs.Tensors.{below_given}
use Rattle.check_runs.proofs.runs.answer_given.Goals as goal

pub given_tensor-requires : goal.given_tensor-requires
given_tensor-requires g c =
    below_given g.R.Rank.R g.R.Rank.LEN (map string_bytes c.args.later.now) c.in-Ok.settings.items c.deref.result.now c.deref.ensures.value
    g.R.Rank.power c.in-Ok.ensures.settings

pub returns-clause-text : goal.returns-clause-text
returns-clause-text g c =
    answered_tensor c.one_number.ensures c.args.tree.now (symbol_of c.args.jahn.now) (map string_bytes c.args.later.now) c.args.group.now
    g.R.Rank.R c.in-Ok.settings.items c.deref.result.now c.in-Ok-given_tensor.t.items c.deref-2.result.now
    (λ (x : Vec ℕ Global). x.items) c.answer_at.result c.requires.elements c.requires.shape.rank_is c.in-Ok.ensures.settings c.deref.ensures.value
    c.in-Ok-given_tensor.ensures.once c.in-Ok-given_tensor.ensures.tensor c.deref-2.ensures.value c.answer_at.ensures.text c.answer_at.ensures.calm
