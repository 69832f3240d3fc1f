use Rattle.std.specs.Prelude.{codes}
use Rattle.std.specs.Fmt.{decimal}
use Rattle.text_defs.specs.Prelude.{free_names, or_none, group_text, jahn_text}
use Rattle.jahn_grammar.specs.Symbols.{symbol_of}
use Rattle.reduced_form.specs.Forms.{form_table}
use Rattle.differ_answers.proofs.TextLaws.{header_written}
use Rattle.differ_answers.proofs.headers.write_header.Goals as goal

pub returns-clause-ok : goal.returns-clause-ok
returns-clause-ok g c =
    header_written (codes "differ") (group_text c.args.g.now) (group_text c.args.f.now) (jahn_text (symbol_of c.args.jahn.now))
    (codes "states") (decimal c.args.states) (codes "free") (or_none (free_names (form_table g.R.Rank.R c.args.form.now)))
    c.args.out.now.items c.write_symbols.new.out.items c.append_to.new.out.items c.write_number.new.out.items
    c.append_to-2.new.out.items c.write_free.new.out.items c.append_to-3.new.out.items c.in_ok-write_symbols.ensures.ok
    c.in_ok-append_to.ensures.ok c.in_ok-write_number.ensures.ok c.in_ok-append_to-2.ensures.ok c.in_ok-write_free.ensures.ok
    c.in_ok-append_to-3.ensures.ok
