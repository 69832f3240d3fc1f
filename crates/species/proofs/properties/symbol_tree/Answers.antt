use Rattle.std.proofs.Common.{◌≡◌, ◌<◌, List, ℕ, arith, subst}
use Rattle.tensor_defs.specs.Jahn.{JahnSymbol, rank}
use Rattle.text_defs.specs.JahnTexts.{SpellsJahn, jahn_text}
use Rattle.jahn_grammar.specs.Symbols.{symbol_of}
use Rattle.species.specs.Species.{property_symbol}
use Rattle.species.proofs.Symbols.{property_is_symbol, property_rank}
use Rattle.species.proofs.properties.symbol_tree.Goals as goal

pub returns-in-Ok-clause-symbol : goal.returns-in-Ok-clause-symbol
returns-in-Ok-clause-symbol c =
    let p = property_symbol c.args.property in
    let written = c.written_is_spelled.ensures p (property_is_symbol c.args.property) in
    c.one_jahn_symbol.ensures (jahn_text p) (symbol_of c.in-Ok.jahn) p
    (subst (λ (w : List ℕ). SpellsJahn w (symbol_of c.in-Ok.jahn)) c.symbol_text.ensures c.in-Ok.ensures.0) written

pub unreachable-requires : goal.unreachable-requires
unreachable-requires c =
    let p = property_symbol c.args.property in
    let written = c.written_is_spelled.ensures p (property_is_symbol c.args.property) in
    let faulty = rw (c.in-Err-Syntax.field-0-is) at c.in-Err-Syntax.ensures in
    faulty.none (p, rw c.symbol_text.ensures written)

pub unreachable-requires-in-Err-Rank : goal.unreachable-requires-in-Err-Rank
unreachable-requires-in-Err-Rank c =
    let p = property_symbol c.args.property in
    let written = c.written_is_spelled.ensures p (property_is_symbol c.args.property) in
    let more = rw (c.in-Err-Rank.field-0-is) at c.in-Err-Rank.ensures in
    let same : more.0 ≡ p = c.one_jahn_symbol.ensures (jahn_text p) more.0 p
    (subst (λ (w : List ℕ). SpellsJahn w more.0) c.symbol_text.ensures more.1) written in
    let large : 6 < rank p = subst (λ (j : JahnSymbol). 6 < rank j) same more.2 in
    let small = property_rank c.args.property in
    omega (arith, large, small)
