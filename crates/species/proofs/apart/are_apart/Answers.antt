use Rattle.list_laws.proofs.Kit.{◌-◌, arith, slice_get_within}
use Rattle.magnetic_groups.proofs.Cosets.{group_common, group_product}
use Rattle.species.proofs.StateMarks.{inverse_within, rep_within, seen_apart}
use Rattle.species.proofs.apart.are_apart.Goals as goal

pub product-between-requires : goal.product-between-requires
product-between-requires c =
    let s = c.args.states.now in
    let ig = c.count-count.ensures.groups.0 in
    let states = c.count-count.ensures.states in
    let in_r = rep_within s.whole s.sub s.reps states c.args.k c.representative.result c.representative.ensures in
    let in_s = rep_within s.whole s.sub s.reps states c.args.l c.representative-2.result c.representative-2.ensures in
    group_common s.whole c.inverse-back.result c.representative-2.result ig
    (inverse_within s.whole ig c.representative.result c.inverse-back.result in_r c.inverse-back.ensures.after) in_s

pub bounds-carried-seen : goal.bounds-carried-seen
bounds-carried-seen c =
    let t = c.in-Some.ensures.state in
    let below = slice_get_within c.args.states.now.reps (c.in-Some.seen - 1) t.0 t.1.1 in
    let sized = c.requires.sized in
    omega (arith, below, sized)

pub returns-in-Some : goal.returns-in-Some
returns-in-Some c = λ j told.
    let s = c.args.states.now in
    let ig = c.count-count.ensures.groups.0 in
    let jf = c.count-count.ensures.groups.1 in
    seen_apart j s c.args.carried.now c.args.k c.args.l c.representative.result c.representative-2.result c.inverse-back.result
    c.product-between.result ig jf c.representative.ensures c.representative-2.ensures c.inverse-back.ensures.after
    c.inverse-back.ensures.ahead c.product-between.ensures.is told c.in-Some.seen c.in-Some.ensures.state

pub returns-in-None : goal.returns-in-None
returns-in-None c = λ j told.
    let s = c.args.states.now in
    let ig = c.count-count.ensures.groups.0 in
    let states = c.count-count.ensures.states in
    let in_r = rep_within s.whole s.sub s.reps states c.args.k c.representative.result c.representative.ensures in
    let in_s = rep_within s.whole s.sub s.reps states c.args.l c.representative-2.result c.representative-2.ensures in
    let in_b = inverse_within s.whole ig c.representative.result c.inverse-back.result in_r c.inverse-back.ensures.after in
    absurd (c.in-None.ensures.state (group_product s.whole c.inverse-back.result c.representative-2.result c.product-between.result ig
    in_b in_s c.product-between.ensures.is))
