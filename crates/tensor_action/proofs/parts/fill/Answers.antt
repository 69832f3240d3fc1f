use Rattle.std.proofs.Common.{◌-◌, ◌<◌, ◌∙◌, ◌++◌, ◌∷◌, [], length, take, vec_capacity, ap, subst, sym, arith}
use Rattle.tensor_defs.specs.Prelude.{index_of}
use Rattle.tensor_laws.proofs.ComponentNumbers.{length-index_of}
use Rattle.op_matrix.specs.View.{axis}
use Rattle.tensor_action.specs.Reaching.{AreParts}
use Rattle.tensor_action.proofs.Reach.{bounded, reach-more}
use Rattle.tensor_action.proofs.parts.fill.Goals as goal

pub with_index-requires : goal.with_index-requires
with_index-requires g c =
    let r = g.R.Rank.R in
    let is = index_of r c.args.to in
    let inside : c.loop-place.place < r = omega (arith, c.loop-place-test.true, c.requires.count) in
    let all = bounded c.args.op.now is r c.loop-place.place c.loop-place.parts.items (length-index_of r c.args.to) g.R.Rank.small inside
    c.loop-place.invariant.parts in
    rw c.deref.ensures.value (record {
      row = omega (arith, c.digit.ensures.in_range.0, c.digit.ensures.in_range.1);
      small = all.0;
      within = all.1;
      room = omega (arith, all.2, g.R.Rank.power, c.loop-place.invariant.room_longer);
    })

pub loop-place-preserved : goal.loop-place-preserved
loop-place-preserved g c =
    let r = g.R.Rank.R in
    let op = c.args.op.now in
    let is = index_of r c.args.to in
    let k = c.loop-place.place in
    let long = length-index_of r c.args.to in
    let inside : k < length is = omega (arith, c.loop-place-test.true, c.requires.count, long) in
    record {
      parts = reach-more op is k c.digit.result c.swap.new.x.items inside c.digit.ensures.value
          (subst (AreParts op (take k is ++ axis (c.digit.result - 1) ∷ [])) (sym (ap (λ v. v.items) c.swap.ensures.x_after))
          (c.with_index.ensures.parts (take k is) (subst (AreParts op (take k is)) (sym c.deref.ensures.value) c.loop-place.invariant.parts)));
      room = rw (ap vec_capacity c.swap.ensures.x_after ∙ c.with_index.ensures.capacity) c.loop-place.invariant.room_longer;
      room_longer = rw (ap vec_capacity c.swap.ensures.y_after) c.loop-place.invariant.room;
    }
