use Rattle.std.proofs.Common.{ℕ, Vec, Global, ◌∷◌}
use Rattle.std.specs.Prelude.{map, string_bytes}
use Rattle.tool_runs.specs.Tools.{Words}
use Rattle.jahn_grammar.specs.Symbols.{symbol_of}
use Rattle.check_runs.specs.CheckWords.{IsFit}
use Rattle.check_runs.proofs.Refusing.{answered_words}
use Rattle.check_runs.proofs.runs.answer_symbols.Goals as goal

pub returns-clause-text : goal.returns-clause-text
returns-clause-text c =
    let words : Words = c.args.group.now ∷ c.args.symbol.now ∷ map string_bytes c.args.later.now in
    let j = symbol_of c.in-Ok-read_jahn.jahn in
    let fit : IsFit words c.in-Ok.tree j = record {
      asked = record { short = c.requires; group_is = c.in-Ok.ensures; symbol_is = c.in-Ok-read_jahn.ensures.0 };
      accepted = c.in-Ok-build_group.ensures.accepted;
      small = c.in-Ok-read_jahn.ensures.1;
    } in
    answered_words c.one_group_symbol.ensures c.one_jahn_symbol.ensures words c.in-Ok.tree j fit (λ (x : Vec ℕ Global). x.items) c.answer_fit.result
    c.answer_fit.ensures.text
