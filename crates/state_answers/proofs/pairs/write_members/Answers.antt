use Rattle.std.proofs.Common.{◌≡◌, ◌++◌, List, ℕ, ap, ◌∙◌, arith}
use Rattle.answer_writers.proofs.EntryTexts.{longer_more}
use Rattle.state_answers.specs.Gaps.{gap}
use Rattle.state_answers.proofs.ClassTexts.{members_more}
use Rattle.state_answers.proofs.pairs.write_members.Goals as goal

pub loop-place-preserved : goal.loop-place-preserved
loop-place-preserved c =
    let spaced : c.append_to.new.out.items ≡ c.loop-place.out.items ++ gap c.loop-place.place =
    c.in_ok-append_to.ensures.ok ∙ ap (λ (l : List ℕ). c.loop-place.out.items ++ l) c.gap.ensures in
    record {
      items = members_more c.args.members.now c.loop-place.place c.at.result c.args.out.now.items c.loop-place.out.items
          c.append_to.new.out.items c.write_number.new.out.items c.at.ensures c.loop-place.invariant.items spaced c.in_ok-write_number.ensures.ok;
      longer = longer_more _ _ _ _ (longer_more _ _ _ _ c.loop-place.invariant.longer spaced) c.in_ok-write_number.ensures.ok;
      capacity = omega (arith, c.loop-place.invariant.capacity, c.in_ok-append_to.ensures.capacity, c.in_ok-write_number.ensures.capacity);
    }
