use Rattle.std.proofs.Common.{List, ℕ, ◌++◌, ap, ◌∙◌}
use Rattle.jahn_grammar.specs.Symbols.{symbol_of}
use Rattle.table_answers.proofs.Told.{same_written}
use Rattle.table_answers.proofs.sameness.write_line.Goals as goal

pub returns-clause-ok : goal.returns-clause-ok
returns-clause-ok c =
    same_written c.args.g.now c.args.h.now (symbol_of c.args.jahn.now) c.args.same c.args.out.now.items
    c.append_to.new.out.items c.write_group.new.out.items c.append_to-2.new.out.items c.write_group-2.new.out.items
    c.append_to-3.new.out.items c.write_jahn.new.out.items c.append_to-4.new.out.items c.in_ok-append_to.ensures.ok
    c.in_ok-write_group.ensures.ok c.in_ok-append_to-2.ensures.ok c.in_ok-write_group-2.ensures.ok
    c.in_ok-append_to-3.ensures.ok c.in_ok-write_jahn.ensures.text
    (c.in_ok-append_to-4.ensures.ok ∙ ap (λ (l : List ℕ). c.write_jahn.new.out.items ++ l) c.end_of.ensures)
