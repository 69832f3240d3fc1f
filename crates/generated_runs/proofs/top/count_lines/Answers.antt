use Rattle.std.proofs.Common.{◌≡◌, ◌∙◌, length, ap, sym, subst, arith, ℕ}
use Rattle.generated_runs.specs.Requests.{line_from}
use Rattle.generated_runs.proofs.Made.{SoFar, line_short, made_none, made_more}
use Rattle.generated_runs.proofs.top.count_lines.Goals as goal

pub loop-made-init : goal.loop-made-init
loop-made-init g c =
    subst (λ (x : ℕ). SoFar g.A.Answers.becomes c.args.count c.args.seed 0 x c.new-counts.result) (sym c.new-draws.ensures)
    (made_none g.A.Answers.becomes c.args.count c.args.seed c.new-counts.result c.new-counts.ensures)

pub answer-requires-clause-short : goal.answer-requires-clause-short
answer-requires-clause-short g c =
    let is : c.deref.result.now ≡ line_from c.loop-made.draws.state = c.deref.ensures.value ∙ c.in_ok-make_line.ensures.line in
    omega (arith, ap length is, line_short c.loop-made.draws.state)

pub loop-made-preserved : goal.loop-made-preserved
loop-made-preserved g c =
    made_more g.A.Answers.becomes c.args.count c.args.seed c.loop-made.made c.loop-made.draws.state c.make_line.new.self.state
    c.loop-made.counts c.count.new.self c.deref.result.now c.in_ok-answer.field-0 c.loop-made-test.true
    (c.deref.ensures.value ∙ c.in_ok-make_line.ensures.line) c.in_ok-make_line.ensures.state c.in_ok-answer.ensures
    c.count.ensures.counts c.count.ensures.free c.loop-made.invariant
