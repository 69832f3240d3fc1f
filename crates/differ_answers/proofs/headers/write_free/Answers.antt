use Rattle.std.proofs.Common.{◌<◌, ◌≤◌, ◌+◌, ◌++◌, List, ℕ, length, take, ap, ◌∙◌, arith}
use Rattle.tensor_defs.specs.Tensor.{index_of}
use Rattle.text_defs.specs.AnswerTexts.{component_name}
use Rattle.differ_answers.proofs.TextLaws.{names_done, names_grown}
use Rattle.differ_answers.proofs.headers.write_free.Goals as goal

pub loop-place-preserved : goal.loop-place-preserved
loop-place-preserved g c =
    let r = g.R.Rank.R in
    let f = c.args.form.now in
    let k = c.loop-place.place in
    let one = c.append_to-in-loop-place.new.out.items in
    let is = c.free_count-place-end.ensures.is in
    let inside : k < length f.free = omega (arith, is, c.loop-place-test.true) in
    record {
      items = names_grown r f k c.args.out.now.items c.loop-place.out.items one c.append_to-in-loop-place-2.new.out.items inside
          c.loop-place.invariant.items
          (c.in_ok-append_to-2.ensures.ok ∙ ap (λ (l : List ℕ). c.loop-place.out.items ++ l) c.gap.ensures)
          (c.in_ok-append_to-3.ensures.ok ∙ ap (λ (l : List ℕ). one ++ l) (ap (λ (m : ℕ). take (m + 1) c.name_bytes-name.result) c.R.ensures ∙ c.name_bytes-name.ensures
          ∙ ap (λ (n : ℕ). component_name (index_of r n)) c.free_at.ensures));
      capacity = omega (arith, c.loop-place.invariant.capacity, c.in_ok-append_to-2.ensures.capacity, c.in_ok-append_to-3.ensures.capacity);
    }

pub returns-clause-ok : goal.returns-clause-ok
returns-clause-ok g c =
    let r = g.R.Rank.R in
    let f = c.args.form.now in
    let is = c.free_count-place-end.ensures.is in
    let first = c.free_count.ensures.is in
    let some : 0 < length f.free = omega (arith, first, c.if-free_count-eq0.false) in
    let end : length f.free ≤ c.loop-place.place = omega (arith, is, c.loop-place-test.false) in
    c.loop-place.invariant.items ∙ ap (λ (l : List ℕ). c.args.out.now.items ++ l) (names_done r f c.loop-place.place some end)
