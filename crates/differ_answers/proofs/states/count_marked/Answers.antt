use Rattle.std.proofs.Common.{◌≡◌, ◌∙◌, Bool, cond, ℕ, ap, arith, length}
use Rattle.state_marks.specs.Told.{mark_at}
use Rattle.differ_answers.specs.Texts.{marked_below}
use Rattle.differ_answers.proofs.TextLaws.{count_more, one_few}
use Rattle.differ_answers.proofs.states.count_marked.Goals as goal

pub loop-number-preserved : goal.loop-number-preserved
loop-number-preserved g c =
    let s = c.args.rows.now in
    let mark : c.is_marked.result ≡ mark_at s c.loop-number.number = c.is_marked.ensures ∙ ap (mark_at s) c.at.ensures in
    let one : c.one_if-count.result ≡ cond (mark_at s c.loop-number.number) 1 0 =
    c.one_if-count.ensures ∙ ap (λ (b : Bool). cond b 1 0) mark in
    let few = c.loop-number.invariant.few in
    let at_most = one_few (mark_at s c.loop-number.number) c.one_if-count.result one in
    record {
      is = count_more g.R.Rank.R c.loop-number.number c.loop-number.count s c.one_if-count.result c.loop-number.invariant.is one;
      few = omega (arith, few, at_most);
    }

pub returns : goal.returns
returns g c =
    let last : c.loop-number.number ≡ g.R.Rank.LEN = omega (arith, c.loop-number-test.false, c.LEN-number-end.ensures) in
    c.loop-number.invariant.is ∙ ap (λ (n : ℕ). length (marked_below g.R.Rank.R c.args.rows.now n)) last
