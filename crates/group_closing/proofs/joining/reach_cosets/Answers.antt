use Rattle.list_laws.proofs.Kit.{◌+◌, ◌++◌, ◌∷◌, [], ◌∙◌, arith, length_push, sym, subst}
use Rattle.group_closing.proofs.CosetClosing.{cosets_past, cosets_next, coset_told, firsts_room, front_spanned, IsReachingCosets}
use Rattle.group_closing.proofs.Spans.{span_common}
use Rattle.group_closing.proofs.joining.reach_cosets.Goals as goal
use Rattle.group_closing.proofs.joining.reach_cosets.Goals.{then-not-has, else-not-has}

pub product-product-requires : goal.product-product-requires
product-product-requires c =
    let gens = c.args.generators.now ++ c.args.more.now ∷ [] in
    let l = length_push c.args.generators.now c.args.more.now in
    (coset_told gens c.args.order c.args.firsts.now c.args.found.now c.args.marks.now c.args.first.now c.generator_at-generator.result c.loop-place.place
    c.requires.frame c.requires.cosets c.requires.reached (omega (arith, l)) c.generator_at-generator.ensures).0

pub add_coset-requires-clause-frame : goal.add_coset-requires-clause-frame
add_coset-requires-clause-frame c = λ t i.
    let gens = c.args.generators.now ++ c.args.more.now ∷ [] in
    let l = length_push c.args.generators.now c.args.more.now in
    let told = coset_told gens c.args.order c.args.firsts.now c.args.found.now c.args.marks.now c.args.first.now c.generator_at-generator.result c.loop-place.place
    c.requires.frame c.requires.cosets c.requires.reached (omega (arith, l)) c.generator_at-generator.ensures in
    span_common gens c.product-product.result t c.requires.frame (told.1 c.product-product.result c.product-product.ensures.is)
    (front_spanned gens c.args.order c.loop-place.firsts c.loop-place.found c.loop-place.marks t c.loop-place.invariant.cosets i)

pub push-requires : goal.push-requires
push-requires c =
    let gens = c.args.generators.now ++ c.args.more.now ∷ [] in
    let l = length_push c.args.generators.now c.args.more.now in
    let told = coset_told gens c.args.order c.args.firsts.now c.args.found.now c.args.marks.now c.args.first.now c.generator_at-generator.result c.loop-place.place
    c.requires.frame c.requires.cosets c.requires.reached (omega (arith, l)) c.generator_at-generator.ensures in
    firsts_room gens c.args.order c.loop-place.firsts c.loop-place.found c.add_coset.new.found c.loop-place.marks c.add_coset.new.marks
    c.product-product.result c.requires.frame c.loop-place.invariant.cosets (told.1 c.product-product.result c.product-product.ensures.is) c.add_coset.ensures

pub loop-place-preserved : goal.loop-place-preserved
loop-place-preserved c =
    let gens = c.args.generators.now ++ c.args.more.now ∷ [] in
    let g = c.args.first.now in
    let l = length_push c.args.generators.now c.args.more.now in
    let told = coset_told gens c.args.order c.args.firsts.now c.args.found.now c.args.marks.now g c.generator_at-generator.result c.loop-place.place
    c.requires.frame c.requires.cosets c.requires.reached (omega (arith, l)) c.generator_at-generator.ensures in
    elim c.if-not-has.branch [
      | then-not-has w ↦
          subst (λ xs. IsReachingCosets gens g c.args.order (c.loop-place.place + 1) c.args.firsts.now c.args.marks.now c.args.found.now xs c.if-not-has.marks c.if-not-has.found) (sym w.firsts-is)
          (subst (λ m. IsReachingCosets gens g c.args.order (c.loop-place.place + 1) c.args.firsts.now c.args.marks.now c.args.found.now w.push.new.self m c.if-not-has.found) (sym w.marks-is)
          (subst (λ f. IsReachingCosets gens g c.args.order (c.loop-place.place + 1) c.args.firsts.now c.args.marks.now c.args.found.now w.push.new.self w.add_coset.new.marks f) (sym w.found-is)
          (cosets_next gens g c.args.order c.loop-place.place c.args.firsts.now c.loop-place.firsts w.push.new.self
          c.args.found.now c.loop-place.found w.add_coset.new.found c.args.marks.now c.loop-place.marks w.add_coset.new.marks
          c.generator_at-generator.result c.product-product.result c.requires.frame c.loop-place.invariant c.generator_at-generator.ensures c.product-product.ensures.is
          (told.1 c.product-product.result c.product-product.ensures.is) w.add_coset.ensures w.push.ensures)))
      | else-not-has w ↦
          subst (λ xs. IsReachingCosets gens g c.args.order (c.loop-place.place + 1) c.args.firsts.now c.args.marks.now c.args.found.now xs c.if-not-has.marks c.if-not-has.found) (sym w.firsts-is)
          (subst (λ m. IsReachingCosets gens g c.args.order (c.loop-place.place + 1) c.args.firsts.now c.args.marks.now c.args.found.now c.loop-place.firsts m c.if-not-has.found) (sym w.marks-is)
          (subst (λ f. IsReachingCosets gens g c.args.order (c.loop-place.place + 1) c.args.firsts.now c.args.marks.now c.args.found.now c.loop-place.firsts c.loop-place.marks f) (sym w.found-is)
          (cosets_past gens g c.args.order c.loop-place.place c.args.firsts.now c.loop-place.firsts
          c.args.found.now c.loop-place.found c.args.marks.now c.loop-place.marks
          c.generator_at-generator.result c.product-product.result c.loop-place.invariant c.generator_at-generator.ensures c.product-product.ensures.is
          ((let k = c.has.ensures in (_, k.below, sym k.is ∙ w.if-not-has.false, k.at))))))
    ]
