use Rattle.std.proofs.Common.{[], ◌∷◌}
use Rattle.tool_runs.specs.Tools.{Words}
use Rattle.tool_runs.proofs.Refusing.{none_refuses}
use Rattle.jahn_grammar.specs.Symbols.{symbol_of}
use Rattle.curie_runs.specs.CurieWords.{IsAsked, RefusesAs}
use Rattle.curie_runs.proofs.Refusing.{none_applies}
use Rattle.curie_runs.proofs.runs.answer_symbols.Goals as goal

pub returns-in-Ok-answer_curie-clause-text : goal.returns-in-Ok-answer_curie-clause-text
returns-in-Ok-answer_curie-clause-text c =
    let words : Words = c.args.group.now ∷ c.args.symbol.now ∷ [] in
    let j = symbol_of c.in-Ok-read_jahn.jahn in
    let asked : IsAsked words c.in-Ok.limiting j = record {
      short = c.requires;
      group_is = c.in-Ok.ensures;
      symbol_is = c.in-Ok-read_jahn.ensures.0;
    } in (
      none_refuses RefusesAs words (none_applies c.one_jahn_symbol.ensures words c.in-Ok.limiting j asked c.in-Ok-read_jahn.ensures.1
          c.in-Ok-answer_curie.ensures.calm),
      (c.in-Ok.limiting, j, asked, c.in-Ok-answer_curie.ensures.fits),
    )
