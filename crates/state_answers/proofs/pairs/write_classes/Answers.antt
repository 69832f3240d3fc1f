use Rattle.std.proofs.Common.{◌<◌, arith, rules, length}
use Rattle.answer_writers.proofs.EntryTexts.{longer_more}
use Rattle.state_answers.proofs.ClassTexts.{class_more}
use Rattle.state_answers.proofs.pairs.write_classes.Goals as goal

pub loop-place-preserved : goal.loop-place-preserved
loop-place-preserved c =
    let inside : c.loop-place.place < length c.args.classes.now = search rules in
    record {
      rest = class_more c.loop-place.place c.args.classes.now c.index-classes-place.result c.loop-place.out.items
          c.write_class.new.out.items _ inside c.index-classes-place.is c.in_ok-write_class.ensures.ok c.loop-place.invariant.rest;
      longer = longer_more _ _ _ _ c.loop-place.invariant.longer c.in_ok-write_class.ensures.ok;
      capacity = omega (arith, c.loop-place.invariant.capacity, c.in_ok-write_class.ensures.capacity);
    }
