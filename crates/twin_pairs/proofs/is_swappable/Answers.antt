use Rattle.std.proofs.Common.{◌≡◌, length, ap, subst, arith}
use Rattle.std.specs.Prelude.{Contains, ◌↔◌, IsTrue, slice_index_or}
use Rattle.tensor_defs.specs.Operation.{Operation}
use Rattle.magnetic_groups.proofs.Cosets.{group_common, group_product}
use Rattle.twin_pairs.proofs.DoubleCosets.{swaps_found, swaps_more, swaps_none}
use Rattle.twin_pairs.proofs.is_swappable.Goals as goal

pub product-half-requires : goal.product-half-requires
product-half-requires c = group_common c.args.states.now.whole c.args.element.now c.at-member.result c.count-count.ensures.groups.0 c.requires.inside (c.count-count.ensures.within c.at-member.result (subst (λ xs. Contains xs c.at-member.result) c.sub-sub.ensures c.at-member.ensures.element))

pub product-product-requires : goal.product-product-requires
product-product-requires c = group_common c.args.states.now.whole c.product-half.result c.args.element.now c.count-count.ensures.groups.0 (group_product c.args.states.now.whole c.args.element.now c.at-member.result c.product-half.result c.count-count.ensures.groups.0 c.requires.inside (c.count-count.ensures.within c.at-member.result (subst (λ xs. Contains xs c.at-member.result) c.sub-sub.ensures c.at-member.ensures.element)) c.product-half.ensures.is) c.requires.inside

pub returns-then-has : goal.returns-then-has
returns-then-has c = swaps_found c.args.states.now.whole c.args.states.now.sub c.count-count.ensures.groups.0 c.count-count.ensures.groups.1 c.count-count.ensures.within c.args.element.now c.at-member.result c.product-half.result c.product-product.result c.requires.inside (subst (λ xs. Contains xs c.at-member.result) c.sub-sub.ensures c.at-member.ensures.element) c.product-half.ensures.is c.product-product.ensures.is (subst (λ xs. Contains xs c.product-product.result) c.sub-sub.ensures (c.has.ensures.0 c.if-has.true))

pub loop-place-preserved : goal.loop-place-preserved
loop-place-preserved c = swaps_more c.args.states.now.whole c.args.states.now.sub c.count-count.ensures.groups.0 c.count-count.ensures.groups.1 c.count-count.ensures.within c.args.element.now c.loop-place.place c.at-member.result c.product-half.result c.product-product.result c.has.result c.loop-place.invariant (subst (λ xs. (d : Operation) → slice_index_or xs c.loop-place.place d ≡ c.at-member.result) c.sub-sub.ensures c.at-member.ensures.reads) c.product-half.ensures.is c.product-product.ensures.is (subst (λ xs. IsTrue c.has.result ↔ Contains xs c.product-product.result) c.sub-sub.ensures c.has.ensures) c.if-has.false

pub returns : goal.returns
returns c = swaps_none c.args.states.now.whole c.args.states.now.sub c.count-count.ensures.groups.0 c.count-count.ensures.groups.1 c.count-count.ensures.within c.args.element.now c.loop-place.place c.requires.inside (let h : length c.sub-sub.result.now ≡ length c.args.states.now.sub = ap length c.sub-sub.ensures in omega (arith, h)) c.loop-place.invariant
