use Rattle.list_laws.proofs.Kit.{◌≡◌, ◌++◌, ◌∷◌, [], ◌∙◌, List, ℕ, ap, length, arith, decimal}
use Rattle.std.specs.Prelude.{codes}
use Rattle.text_defs.specs.AnswerTexts.{line_of}
use Rattle.form_lines.specs.Texts.{lines_upto}
use Rattle.form_lines.proofs.TextLaws.{lines_grown, lines_start}
use Rattle.differ_answers.specs.Texts.{marked_text}
use Rattle.differ_answers.proofs.StandingLaws.{lines_here}
use Rattle.differ_answers.proofs.TextLaws.{state_written}
use Rattle.differ_answers.proofs.states.write_state.Goals as goal

pub loop-component-init : goal.loop-component-init
loop-component-init g c = record {
  items = lines_start (marked_text g.R.Rank.R c.args.form.now c.args.rows.now) c.write_front.new.out.items;
  capacity = omega arith;
}

pub loop-component-preserved : goal.loop-component-preserved
loop-component-preserved g c = record {
  items = lines_grown (marked_text g.R.Rank.R c.args.form.now c.args.rows.now) c.loop-component.component c.write_front.new.out.items
      c.loop-component.out.items c.write_marked.new.out.items c.loop-component.invariant.items c.in_ok-write_marked.ensures.ok;
  capacity = omega (arith, c.loop-component.invariant.capacity, c.in_ok-write_marked.ensures.capacity);
}

pub returns-clause-ok : goal.returns-clause-ok
returns-clause-ok g c =
    let r = g.R.Rank.R in
    let n = g.R.Rank.LEN in
    let f = c.args.form.now in
    let s = c.args.rows.now in
    let old = c.args.out.now.items in
    let text : ℕ → ℕ → List ℕ = λ x y.
    line_of (codes "state" ∷ decimal c.args.number ∷ codes "differs" ∷ decimal x ∷ codes "of" ∷ decimal y ∷ []) in
    let last : c.loop-component.component ≡ n = omega (arith, c.loop-component-test.false, c.LEN-component-end.ensures) in
    state_written c.args.number r n f s g.R.Rank.power c.requires.named old c.write_front.new.out.items c.loop-component.out.items
    (c.in_ok-write_front.ensures.ok ∙ (λ i. old ++ text (c.count_marked-count.ensures i) (c.LEN.ensures i)))
    (c.loop-component.invariant.items ∙ ap (λ (k : ℕ). c.write_front.new.out.items ++ lines_upto (marked_text r f s) k) last)

pub returns-clause-lines : goal.returns-clause-lines
returns-clause-lines g c =
    let r = g.R.Rank.R in
    let n = g.R.Rank.LEN in
    let f = c.args.form.now in
    let s = c.args.rows.now in
    let front = c.write_front.new.out.items in
    let last : c.loop-component.component ≡ n = omega (arith, c.loop-component-test.false, c.LEN-component-end.ensures) in
    lines_here r n f s g.R.Rank.power c.requires.named front c.loop-component.out.items
    (c.loop-component.invariant.items ∙ ap (λ (k : ℕ). front ++ lines_upto (marked_text r f s) k) last)
    (record { count = c.count_marked-count.result; start = length c.as_slice-start.result.now; end = length c.as_slice-end.result.now })
    c.count_marked-count.ensures (ap length c.as_slice-start.ensures.value) (ap length c.as_slice-end.ensures.value)
