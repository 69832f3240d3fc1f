use Rattle.std.proofs.Common.{◌<◌, ◌∙◌, length, arith}
use Rattle.op_matrix.specs.View.{axis}
use Rattle.tensor_action.proofs.FactorLaws.{entry_value}
use Rattle.tensor_action.proofs.Reach.{extend-end, extend-more}
use Rattle.tensor_action.proofs.parts.with_index.Goals as goal

pub loop-place-preserved : goal.loop-place-preserved
loop-place-preserved c =
    let g = c.args.op.now in
    let i = axis c.args.row in
    let h : c.loop-place.place < length c.args.parts.now = omega (arith, c.loop-place-test.true) in
    record {
      extending = λ is parts.
          extend-more g i is c.args.parts.now c.loop-place.place c.loop-place.longer.items c.append_taken.new.out.items
          c.append_taken-in-loop-place.new.out.items c.append_taken-in-loop-place-2.new.out.items h
          (c.append_taken.ensures.extends g i (entry_value g c.entry-first.result i (axis 0) c.entry-first.ensures))
          (c.append_taken-in-loop-place.ensures.extends g i (entry_value g c.entry-second.result i (axis 1) c.entry-second.ensures))
          (c.append_taken-in-loop-place-2.ensures.extends g i (entry_value g c.entry-third.result i (axis 2) c.entry-third.ensures))
          (c.loop-place.invariant.extending is parts);
      len = omega (arith, c.loop-place.invariant.len, c.append_taken.ensures.len, c.append_taken-in-loop-place.ensures.len, c.append_taken-in-loop-place-2.ensures.len);
      capacity = c.append_taken-in-loop-place-2.ensures.capacity ∙ c.append_taken-in-loop-place.ensures.capacity ∙ c.append_taken.ensures.capacity
          ∙ c.loop-place.invariant.capacity;
    }

pub returns-clause-parts : goal.returns-clause-parts
returns-clause-parts c = λ is parts.
    extend-end c.args.op.now (axis c.args.row) is c.args.parts.now c.loop-place.place c.loop-place.longer.items
    (omega (arith, c.loop-place-test.false)) (c.loop-place.invariant.extending is parts)
