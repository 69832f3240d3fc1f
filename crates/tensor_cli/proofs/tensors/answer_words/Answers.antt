use Rattle.std.proofs.Common.{◌+◌, ◌++◌, ◌≤◌, ◌∙◌, ap, arith, append_assoc, drop, List, ℕ}
use Rattle.std.proofs.lemmas.Result.{err_from_is_err_and}
use Rattle.tensor_defs.specs.Jahn.{rank}
use Rattle.tensor_cli.proofs.StopLaws.{first_large}
use Rattle.tensor_cli.proofs.Words.{add_all, add_more, each_all, each_more, each_nth, joined_all, joined_more, nth_at}
use Rattle.tensor_cli.proofs.tensors.answer_words.Goals as goal

pub returns-in_err-free-clause-stop : goal.returns-in_err-free-clause-stop
returns-in_err-free-clause-stop g c =
    let p = err_from_is_err_and c.from_residual.result c.from_residual.ensures.1 in
    let place = c.loop-place.place in
    rw (p.1, p.2) (λ js told few.
    let w = c.in-Some.ensures js told in
    first_large (λ j. g.T.AnswersTensor.grows c.args.tensors.now j.jahn) js place w.jahn (drop (place + 1) js) c.in_err-free.field-0.0
    (nth_at c.args.line.now js place c.in-Some.word w) (c.loop-place.invariant.joined js told few).1
    (c.in_err-free.ensures.stop w.jahn w.tells))

pub answer_word-requires-clause-told : goal.answer_word-requires-clause-told
answer_word-requires-clause-told g c =
    let list = c.requires.list in
    let place = c.loop-place.place in
    let w = c.in-Some.ensures list.0 list.1 in (
      w.jahn,
      w.tells,
      each_nth (λ j. rank j.jahn ≤ 6) list.0 place w.jahn (drop (place + 1) list.0)
          (nth_at c.args.line.now list.0 place c.in-Some.word w) (c.requires.in_rank list.0 list.1 list.2),
    )

pub loop-place-preserved : goal.loop-place-preserved
loop-place-preserved g c =
    let place = c.loop-place.place in
    let some = c.in-Some.ensures c.requires.list.0 c.requires.list.1 in
    let any = c.in_ok-free.ensures.ok some.jahn some.tells in
    let front = c.loop-place.invariant.begins in
    record {
      joined = λ js told few.
          let w = c.in-Some.ensures js told in
          let is = nth_at c.args.line.now js place c.in-Some.word w in
          let so = c.loop-place.invariant.joined js told few in
          let next = c.in_ok-free.ensures.ok w.jahn w.tells in (
            (
              so.0.0 ++ next.0,
              joined_more (g.T.AnswersTensor.text c.args.tensors.now) js place w.jahn (drop (place + 1) js) is so.0.0 next.0 so.0.1 next.1,
              next.2 ∙ ap (λ (l : List ℕ). l ++ next.0) so.0.2 ∙ append_assoc _ so.0.0 next.0,
            ),
            each_more (λ j. g.T.AnswersTensor.grows c.args.tensors.now j.jahn → ⊥) js place w.jahn (drop (place + 1) js) is so.1 next.3,
          );
      free = λ js told few.
          let w = c.in-Some.ensures js told in
          add_more (g.T.AnswersTensor.free c.args.tensors.now) js place w.jahn (drop (place + 1) js)
          (nth_at c.args.line.now js place c.in-Some.word w) _ _ (c.loop-place.invariant.free js told few)
          (c.in_ok-free.ensures.free w.jahn w.tells);
      few = omega (arith, c.loop-place.invariant.few, c.in_ok-free.ensures.few);
      begins = (front.0 ++ any.0, any.2 ∙ ap (λ (l : List ℕ). l ++ any.0) front.1 ∙ append_assoc _ front.0 any.0);
      capacity = omega (arith, c.loop-place.invariant.capacity, c.in_ok-free.ensures.capacity);
    }

pub returns-clause-ok : goal.returns-clause-ok
returns-clause-ok g c = λ js told few.
    let so = c.loop-place.invariant.joined js told few in (
      joined_all (g.T.AnswersTensor.text c.args.tensors.now) js c.loop-place.place _ _ (omega (arith, few, c.loop-place-test.false)) so.0,
      each_all (λ j. g.T.AnswersTensor.grows c.args.tensors.now j.jahn → ⊥) js c.loop-place.place (omega (arith, few, c.loop-place-test.false)) so.1,
    )

pub returns-clause-free : goal.returns-clause-free
returns-clause-free g c = λ js told few.
    add_all (g.T.AnswersTensor.free c.args.tensors.now) js c.loop-place.place _ (omega (arith, few, c.loop-place-test.false))
    (c.loop-place.invariant.free js told few)
