use Rattle.std.proofs.Common.{◌≡◌, ℕ, arith, ap, ◌∙◌}
use Rattle.std.specs.Prelude.{List, ◌++◌}
use Rattle.tensor_defs.specs.Tensor.{index_of}
use Rattle.text_defs.specs.AnswerTexts.{component_line}
use Rattle.reduced_form.specs.Prelude.{form_table}
use Rattle.form_lines.specs.Texts.{lines_upto}
use Rattle.form_lines.proofs.TextLaws.{all_lines, grown_twice, lines_grown, lines_start}
use Rattle.form_lines.proofs.writing.write_lines.Goals as goal

pub loop-number-init : goal.loop-number-init
loop-number-init g c = record { items = lines_start _ c.args.out.now.items; capacity = omega arith }

pub returns-in_err-write_line-clause-longer : goal.returns-in_err-write_line-clause-longer
returns-in_err-write_line-clause-longer g c =
    grown_twice (record { more = _; grown = c.loop-number.invariant.items }) c.write_line.ensures.longer

pub loop-number-preserved : goal.loop-number-preserved
loop-number-preserved g c = record {
  items =
      let f : ℕ → List ℕ = λ n. component_line (form_table g.R.Rank.R c.args.form.now) (index_of g.R.Rank.R n) in
      lines_grown f c.loop-number.number c.args.out.now.items c.loop-number.out.items _ c.loop-number.invariant.items
      c.in_ok-write_line.ensures.ok;
  capacity = omega (arith, c.loop-number.invariant.capacity, c.in_ok-write_line.ensures.capacity);
}

pub returns-clause-ok : goal.returns-clause-ok
returns-clause-ok g c =
    let r = g.R.Rank.R in
    let f : ℕ → List ℕ = λ n. component_line (form_table r c.args.form.now) (index_of r n) in
    let last : c.loop-number.number ≡ g.R.Rank.LEN = omega (arith, c.loop-number-test.false, c.LEN-number-end.ensures) in
    c.loop-number.invariant.items
    ∙ ap (λ n. c.args.out.now.items ++ lines_upto f n) (last ∙ g.R.Rank.power)
    ∙ ap (λ x. c.args.out.now.items ++ x) (all_lines r (component_line (form_table r c.args.form.now)))
