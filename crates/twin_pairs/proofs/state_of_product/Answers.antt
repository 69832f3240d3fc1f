use Rattle.list_laws.proofs.Kit.{◌≤◌, length, sym, subst, arith, same_Some}
use Rattle.std.specs.Prelude.{Some}
use Rattle.tensor_defs.specs.Prelude.{Operation, Times}
use Rattle.tensor_laws.proofs.Products.{product_unique}
use Rattle.magnetic_groups.specs.Sets.{In}
use Rattle.magnetic_groups.proofs.Cosets.{group_common, group_product}
use Rattle.coset_states.specs.Numbering.{TellsState}
use Rattle.twin_pairs.proofs.Listings.{state_below}
use Rattle.twin_pairs.proofs.state_of_product.Goals as goal

pub product-product-requires : goal.product-product-requires
product-product-requires c =
    group_common c.args.states.now.whole c.args.member.now c.args.element.now c.count-count.ensures.groups.0
    (c.count-count.ensures.within c.args.member.now c.requires.member) c.requires.inside

pub unreachable-requires : goal.unreachable-requires
unreachable-requires c =
    c.in_default.ensures.state
    (group_product c.args.states.now.whole c.args.member.now c.args.element.now c.product-product.result c.count-count.ensures.groups.0
    (c.count-count.ensures.within c.args.member.now c.requires.member) c.requires.inside c.product-product.ensures.is)

pub returns-clause-few : goal.returns-clause-few
returns-clause-few c =
    let b : c.in-Some.state ≤ length c.args.states.now.reps = state_below c.args.states.now.reps c.in-Some.state c.in-Some.ensures.state.0 c.in-Some.ensures.state.1 in
    omega (arith, b, c.count-count.ensures.is, c.count-count.ensures.few)

pub returns-clause-state : goal.returns-clause-state
returns-clause-state c = λ g p.
    let P : Operation → Type 0 = λ x. TellsState c.args.states.now x (Some c.in-Some.state) in
    subst P (product_unique c.args.member.now c.args.element.now c.product-product.result g c.product-product.ensures.is p) c.in-Some.ensures.state

pub returns-clause-only : goal.returns-clause-only
returns-clause-only c = λ g r k p is t.
    let P : Operation → Type 0 = λ x. Times r (In c.args.states.now.sub) x in
    sym (same_Some c.in-Some.state k (c.in-Some.ensures.only k r is (subst P (product_unique c.args.member.now c.args.element.now g c.product-product.result p c.product-product.ensures.is) t)))
