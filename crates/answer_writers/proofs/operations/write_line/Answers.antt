use Rattle.std.proofs.Common.{List, ℕ, ◌++◌, ap, ◌∙◌}
use Rattle.std.proofs.lemmas.Result.{on_ok_weaker}
use Rattle.answer_writers.proofs.EntryTexts.{line_joined, longer_more, longer_last}
use Rattle.answer_writers.specs.Rows.{ending_of}
use Rattle.answer_writers.proofs.operations.write_line.Goals as goal

pub returns-clause-ok : goal.returns-clause-ok
returns-clause-ok c =
    on_ok_weaker c.append_to-2.result (λ last.
    line_joined c.args.word.now c.args.number c.args.op.now c.args.out.now.items c.write_label.new.out.items c.append_to.new.out.items
    c.append_to-2.new.out.items c.in_ok-write_label.ensures.ok
    (c.in_ok-append_to.ensures.ok ∙ ap (λ (l : List ℕ). c.write_label.new.out.items ++ l) c.matrix_text.ensures)
    (last ∙ ap (λ (l : List ℕ). c.append_to.new.out.items ++ l) (c.ending_of.ensures ∙ ap ending_of c.primed.ensures))) c.append_to-2.ensures.ok

pub returns-clause-longer : goal.returns-clause-longer
returns-clause-longer c =
    longer_last c.append_to-2.result _ _ _ _
    (longer_more _ _ _ _ c.in_ok-write_label.ensures.longer c.in_ok-append_to.ensures.ok) c.append_to-2.ensures.ok c.append_to-2.ensures.err
