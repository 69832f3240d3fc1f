use Rattle.std.proofs.Common.{◌≡◌, ◌+◌, ◌<◌, ◌≤◌, ◌∙◌, ap, subst, sym, drop, ℕ}
use Rattle.tensor_defs.specs.Jahn.{rank}
use Rattle.text_defs.specs.Refusals.{FirstAt}
use Rattle.line_runs.specs.declared.refusals.Refusal.{Refusal}
use Rattle.tensor_cli.proofs.StopLaws.{none_over}
use Rattle.tensor_cli.proofs.Words.{each_more, nth_at, nth_first}
use Rattle.tensor_cli.proofs.tensors.list_in_rank.Goals as goal

pub returns-then-not-is_in_rank-clause-err : goal.returns-then-not-is_in_rank-clause-err
returns-then-not-is_in_rank-clause-err c = λ js told few.
    let place = c.loop-place.place in
    let w = c.in-Some.ensures js told in
    let at : c.at.result.column ≡ w.jahn.column = ap (λ (r : Refusal). r.column) c.at.ensures ∙ sym w.tells.column in (
      ap (λ (r : Refusal). r.word) c.at.ensures,
      subst (λ (n : ℕ). FirstAt (λ j. 6 < rank j.jahn) js n) (sym at)
          (nth_first (λ j. 6 < rank j.jahn) js place w.jahn (drop (place + 1) js) (nth_at c.args.line.now js place c.in-Some.word w)
          (none_over _ (c.loop-place.invariant js told few)) (c.if-not-is_in_rank.ensures w.jahn w.tells)),
    )

pub loop-place-preserved : goal.loop-place-preserved
loop-place-preserved c = λ js told few.
    let place = c.loop-place.place in
    let w = c.in-Some.ensures js told in
    each_more (λ j. rank j.jahn ≤ 6) js place w.jahn (drop (place + 1) js) (nth_at c.args.line.now js place c.in-Some.word w)
    (c.loop-place.invariant js told few) (c.if-not-is_in_rank.ensures w.jahn w.tells)
