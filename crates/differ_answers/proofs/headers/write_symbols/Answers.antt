use Rattle.std.specs.Prelude.{codes}
use Rattle.text_defs.specs.Prelude.{group_text, jahn_text}
use Rattle.jahn_grammar.specs.Symbols.{symbol_of}
use Rattle.differ_answers.proofs.TextLaws.{symbols_written}
use Rattle.differ_answers.proofs.headers.write_symbols.Goals as goal

pub returns-clause-ok : goal.returns-clause-ok
returns-clause-ok c =
    symbols_written (codes "differ") (group_text c.args.g.now) (group_text c.args.f.now) (jahn_text (symbol_of c.args.jahn.now))
    c.args.out.now.items c.append_to.new.out.items c.write_group.new.out.items c.append_to-2.new.out.items
    c.write_group-2.new.out.items c.append_to-3.new.out.items c.write_jahn.new.out.items c.in_ok-append_to.ensures.ok
    c.in_ok-write_group.ensures.ok c.in_ok-append_to-2.ensures.ok c.in_ok-write_group-2.ensures.ok
    c.in_ok-append_to-3.ensures.ok c.in_ok-write_jahn.ensures.text
