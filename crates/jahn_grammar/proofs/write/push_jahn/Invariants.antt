use Rattle.std.proofs.Common.{◌≤◌, vec_capacity}
use Rattle.text_defs.specs.JahnTexts.{jahn_text}
use Rattle.jahn_grammar.specs.Symbols.{symbol_of}
use Rattle.jahn_grammar.proofs.Written.{Underway}
use Rattle.jahn_grammar.proofs.write.push_jahn.Given as goal

abbrev pub invariant-loop-place : goal.invariant-loop-place
invariant-loop-place l =
    Underway l.fn.out.items l.out.items (jahn_text (symbol_of l.jahn)) l.jahn.body l.place
    × (vec_capacity l.fn.out ≤ vec_capacity l.out)
