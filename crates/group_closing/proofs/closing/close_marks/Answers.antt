use Rattle.std.proofs.Common.{[], refl, ap, arith, length}
use Rattle.group_closing.proofs.Reaching.{closed_none}
use Rattle.group_closing.proofs.CosetClosing.{front_kept, group_none, next_frame, next_group}
use Rattle.group_closing.proofs.closing.close_marks.Goals as goal

pub loop-place-init : goal.loop-place-init
loop-place-init c =
    group_none [] c.add.new.found c.add.new.marks refl
    (closed_none [] c.none-marks.result c.add.new.marks c.none-found.result c.add.new.found
    c.none-marks.ensures (ap length c.none-marks.ensures) c.none-found.ensures (rw (← c.identity.ensures) c.add.ensures))

pub join-requires-clause-frame : goal.join-requires-clause-frame
join-requires-clause-frame c =
    next_frame c.loop-place.place c.args.generators.now c.index-generators-place.result c.requires (omega arith) c.index-generators-place.is

pub loop-place-preserved : goal.loop-place-preserved
loop-place-preserved c =
    next_group c.loop-place.place c.args.generators.now c.join.new.found c.join.new.marks c.index-generators-place.result (omega arith) c.index-generators-place.is c.join.ensures

pub returns : goal.returns
returns c =
    front_kept c.loop-place.place c.args.generators.now c.loop-place.found c.loop-place.marks (omega arith) c.loop-place.invariant
