use Rattle.list_laws.proofs.Kit.{◌≡◌, ◌-◌, ◌<◌, [], ◌∷◌, ◌++◌, ℕ, List, length, ap, sym, ◌∙◌, subst, on_ok_weaker, slice_range}
use Rattle.std.specs.Prelude.{codes}
use Rattle.tensor_defs.specs.Prelude.{Each, index_of}
use Rattle.text_defs.specs.AnswerTexts.{component_name, equation}
use Rattle.reduced_form.specs.declared.forms.Term.{Term}
use Rattle.reduced_form.specs.Prelude.{FormValue, row_at}
use Rattle.form_lines.specs.Texts.{named_terms}
use Rattle.form_lines.proofs.TextLaws.{free_line, sum_line}
use Rattle.form_lines.proofs.writing.write_line.Goals as goal

pub returns-clause-ok : goal.returns-clause-ok
returns-clause-ok g c =
    let r = g.R.Rank.R in
    let f : FormValue = c.args.form.now in
    let n : ℕ = c.args.number in
    let old : List ℕ = c.args.out.now.items in
    let row : c.row.result.now ≡ row_at f.rows n = c.row.ensures.is ∙ ap (row_at f.rows) c.at-c.ensures in
    let each : Each (λ t. t.free < length f.free) (row_at f.rows n) = subst (λ (ts : List Term). Each (λ t. t.free < length f.free) ts) row c.row.ensures.named in
    on_ok_weaker c.write_equation.result (λ grown.
    sum_line r n f old c.write_equation.new.out.items (sym (c.requires.marks.is n c.requires.number) ∙ c.if-marks-number.false)
    (subst (λ (x : ℕ). n < x) g.R.Rank.power c.requires.number) each
    (grown ∙ (λ i. old ++ equation (component_name (index_of r (c.at-c.ensures i))) (named_terms r f (row i))))) c.write_equation.ensures.ok

pub returns-then-marks-number-clause-ok : goal.returns-then-marks-number-clause-ok
returns-then-marks-number-clause-ok g c =
    let r = g.R.Rank.R in
    let n : ℕ = c.args.number in
    let line : List ℕ = c.free_line-line.result in
    let old : List ℕ = c.args.out.now.items in
    on_ok_weaker c.append_to.result (λ grown.
    free_line r n c.args.form.now old c.append_to.new.out.items (slice_range line (6 - r) 13)
    (sym (c.requires.marks.is n c.requires.number) ∙ c.if-marks-number.true)
    (c.free_line-line.ensures ∙ ap (λ k. component_name (index_of r k) ++ (32 ∷ (codes "free" ++ 10 ∷ []))) c.at-c.ensures)
    (grown ∙ ap (λ k. old ++ slice_range line (6 - k) 13) c.R.ensures)) c.append_to.ensures.ok
