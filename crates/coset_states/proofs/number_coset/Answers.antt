use Rattle.std.proofs.Common.{arith}
use Rattle.coset_states.proofs.Listing.{numbered_more}
use Rattle.coset_states.proofs.number_coset.Goals as goal

pub product-product-requires : goal.product-product-requires
product-product-requires c = c.requires.frame c.at.result (c.loop-place.place, omega arith, c.at.ensures.reads c.at.result)

pub loop-place-preserved : goal.loop-place-preserved
loop-place-preserved c = numbered_more c.args.sub.now c.args.first.now c.args.number c.loop-place.place c.args.numbers.now c.loop-place.numbers c.at.result c.product-product.result c.place.result c.loop-place.invariant (omega arith) c.at.ensures.reads c.product-product.ensures.is c.place.ensures.is c.place.ensures.below c.place.ensures.at
