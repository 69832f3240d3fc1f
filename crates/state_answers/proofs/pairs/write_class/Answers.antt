use Rattle.list_laws.proofs.Kit.{List, ℕ, ◌++◌, ap, ◌∙◌, on_ok_weaker}
use Rattle.twin_pairs.specs.Classes.{class_of}
use Rattle.state_answers.proofs.ClassTexts.{class_joined}
use Rattle.state_answers.proofs.pairs.write_class.Goals as goal

pub returns-clause-ok : goal.returns-clause-ok
returns-clause-ok c =
    on_ok_weaker c.append_to-2.result (λ last.
    class_joined c.args.number (class_of c.args.class.now) c.args.out.now.items c.write_numbers.new.out.items c.append_to.new.out.items
    c.write_both.new.out.items c.append_to-2.new.out.items c.in_ok-write_numbers.ensures.ok
    (c.in_ok-append_to.ensures.ok ∙ ap (λ (l : List ℕ). c.write_numbers.new.out.items ++ l) c.swappable_words.ensures)
    c.in_ok-write_both.ensures.ok last) c.append_to-2.ensures.ok
