use Rattle.std.proofs.Common.{List, ℕ, ◌+◌, ◌++◌, take, ap, ◌∙◌}
use Rattle.tensor_defs.specs.Tensor.{index_of}
use Rattle.text_defs.specs.AnswerTexts.{component_name}
use Rattle.differ_answers.specs.Texts.{named_terms}
use Rattle.differ_answers.proofs.TextLaws.{equation_written}
use Rattle.differ_answers.proofs.equations.write_equation.Goals as goal

pub returns-clause-ok : goal.returns-clause-ok
returns-clause-ok g c =
    let r = g.R.Rank.R in
    let old = c.args.out.now.items in
    equation_written (component_name (index_of r c.args.c)) (named_terms r c.args.form.now c.args.row.now) old
    c.append_to.new.out.items c.append_to-2.new.out.items c.write_sum.new.out.items c.append_to-3.new.out.items
    (c.in_ok-append_to.ensures.ok ∙ ap (λ (n : List ℕ). old ++ n) (ap (λ (k : ℕ). take (k + 1) c.name_bytes-name.result) c.R.ensures ∙ c.name_bytes-name.ensures))
    c.in_ok-append_to-2.ensures.ok c.in_ok-write_sum.ensures.ok c.in_ok-append_to-3.ensures.ok
