use Rattle.std.proofs.Common.{◌∙◌, ap, arith, length}
use Rattle.magnetic_groups.proofs.Cosets.{group_common}
use Rattle.coset_states.proofs.Listing.{listing_none, listing_step, listing_skip, all_listed}
use Rattle.coset_states.proofs.number_all.Goals as goal
use Rattle.coset_states.proofs.number_all.Goals.{then-numbers-place-eq0+in_ok-push, else-numbers-place-eq0}

pub loop-place-init : goal.loop-place-init
loop-place-init c = listing_none c.args.whole.now c.args.sub.now c.new-representatives.result.items _ c.requires.none (ap length c.requires.none) c.new-representatives.ensures.items

pub number_coset-requires-clause-frame : goal.number_coset-requires-clause-frame
number_coset-requires-clause-frame c = λ g h. group_common c.args.whole.now c.at-element.result g c.len-place-end.ensures.group c.at-element.ensures.element (c.requires.within g h)

pub loop-place-preserved : goal.loop-place-preserved
loop-place-preserved c = elim c.if-numbers-place-eq0.branch [
  | then-numbers-place-eq0+in_ok-push w ↦ listing_step c.args.whole.now c.args.sub.now c.loop-place.place w.len.result c.place.result c.loop-place.representatives.items c.if-numbers-place-eq0.representatives.items c.loop-place.numbers w.number_coset.new.numbers c.if-numbers-place-eq0.numbers c.at-element.result c.loop-place.invariant c.at-element.ensures.reads (omega arith) c.place.ensures.is w.if-numbers-place-eq0.true c.len-place-end.ensures.group c.len-size.ensures.group c.requires.within (ap (λ v. v.items) w.representatives-is ∙ w.in_ok-push.ensures.items) (let e = ap (λ v. length v.items) w.representatives-is in omega (arith, e, w.len.ensures)) w.number_coset.ensures w.numbers-is
  | else-numbers-place-eq0 w ↦ listing_skip c.args.whole.now c.args.sub.now c.loop-place.place c.place.result c.loop-place.representatives.items c.if-numbers-place-eq0.representatives.items c.loop-place.numbers c.if-numbers-place-eq0.numbers c.at-element.result c.loop-place.invariant c.at-element.ensures.reads c.place.ensures.is w.if-numbers-place-eq0.false (ap (λ v. v.items) w.representatives-is) w.numbers-is
]

pub returns : goal.returns
returns c = all_listed c.args.whole.now c.args.sub.now c.loop-place.place c.loop-place.representatives.items c.loop-place.numbers c.len-place-end.ensures.group c.len-size.ensures.group c.requires.within c.loop-place.invariant (omega arith) (omega arith)
