use Rattle.std.proofs.Common.{arith, sym, subst, List}
use Rattle.text_defs.specs.JahnTexts.{SpellsJahn}
use Rattle.jahn_grammar.specs.declared.Factor.{Factor}
use Rattle.jahn_grammar.specs.Trees.{factors_of}
use Rattle.jahn_grammar.proofs.TreeReads.{bare_told, factors_read, marks_of}
use Rattle.jahn_grammar.proofs.read.read_tree.Goals as goal
use Rattle.jahn_grammar.proofs.read.read_tree.Goals.{else-front-word-via-then-front-word+else-word-front-ne49, else-front-word-via-else-front-word}

pub read_marked-requires : goal.read_marked-requires
read_marked-requires c =
    factors_read c.args.word.now c.marks_len-front.result c.marks_len-front.ensures c.requires c.if-front-word.true c.if-word-front-ne49.true

pub returns : goal.returns
returns c =
    let bare =
    bare_told c.args.word.now c.marks_len-front.result c.marks_len-front.ensures c.requires
    (λ lt. elim c.else-front-word.branch [
      | else-front-word-via-then-front-word+else-word-front-ne49 w ↦ w.if-word-front-ne49.false
      | else-front-word-via-else-front-word w ↦ absurd (omega (arith, w.if-front-word.false, lt))
    ])
    c.contains.result c.contains-2.result c.contains.ensures.value c.contains-2.ensures.value in
    let P : List Factor → Type 0 = λ (fs : List Factor). SpellsJahn c.args.word.now (record {
      marks = marks_of c.contains.result c.contains-2.result;
      factors = factors_of fs;
    }) in
    subst P (sym c.new-items.ensures.items) bare
