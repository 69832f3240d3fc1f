use Rattle.std.proofs.Common.{◌≤◌, subst}
use Rattle.tensor_defs.specs.Jahn.{JahnSymbol, rank}
use Rattle.text_defs.specs.JahnTexts.{SpellsJahn}
use Rattle.jahn_grammar.specs.declared.RankCount.{RankCount}
use Rattle.jahn_grammar.specs.Symbols.{symbol_of}
use Rattle.jahn_grammar.specs.Views.{CountIs}
use Rattle.jahn_grammar.proofs.read.read_jahn.Goals as goal

pub returns-in_ok-read_tree-in-Ok-Known : goal.returns-in_ok-read_tree-in-Ok-Known
returns-in_ok-read_tree-in-Ok-Known c =
    let word = c.args.word.now in
    let jahn = symbol_of c.in_ok-read_tree-in-Ok-Known.field-0 in
    let spelled : SpellsJahn word jahn = c.in_ok-read_tree-in-Ok-Known.ensures in
    let known : (j : JahnSymbol) × SpellsJahn word j × CountIs c.in-Ok-Known.field-0 (rank j) = c.in-Ok-Known.ensures in
    let P : RankCount → Type 0 = λ (count : RankCount). CountIs count (rank known.0) in
    let low : rank known.0 ≤ 6 = (subst P c.in-Ok-Known.field-0-is known.2).1 in
    let Q : JahnSymbol → Type 0 = λ (j : JahnSymbol). rank j ≤ 6 in
    (spelled, subst Q (c.one_jahn_symbol.ensures word known.0 jahn known.1 spelled) low)
