use Rattle.std.proofs.Common.{◌<◌, length, arith}
use Rattle.number_words.proofs.Digits.{front_below, front_more, front_room}
use Rattle.number_words.proofs.magnitudes.read_digits.Goals as goal

pub overflow_mul-value : goal.overflow_mul-value
overflow_mul-value c =
    let few : c.loop-count.count < 18 = omega arith in
    let room = front_room c.args.text.now c.loop-count.value c.loop-count.count c.loop-count.invariant few in
    omega (arith, room)

pub overflow_add-value : goal.overflow_add-value
overflow_add-value c =
    let few : c.loop-count.count < 18 = omega arith in
    let room = front_room c.args.text.now c.loop-count.value c.loop-count.count c.loop-count.invariant few in
    omega (arith, room, c.in-Some.ensures.1)

pub returns-in-None-clause-small : goal.returns-in-None-clause-small
returns-in-None-clause-small c = front_below c.args.text.now c.loop-count.value c.loop-count.count c.loop-count.invariant

pub loop-count-preserved : goal.loop-count-preserved
loop-count-preserved c =
    let few : c.loop-count.count < 18 = omega arith in
    let inside : c.loop-count.count < length c.args.text.now = omega arith in
    front_more c.args.text.now c.loop-count.value c.loop-count.count c.loop-count.invariant c.in-Some.digit inside few
    c.in-Some.ensures.0 c.in-Some.ensures.1

pub returns-clause-small : goal.returns-clause-small
returns-clause-small c = front_below c.args.text.now c.loop-count.value c.loop-count.count c.loop-count.invariant
