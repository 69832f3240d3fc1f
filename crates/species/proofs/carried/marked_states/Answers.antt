use Rattle.species.proofs.StateMarks.{marked_more}
use Rattle.species.proofs.carried.marked_states.Goals as goal

pub loop-place-preserved : goal.loop-place-preserved
loop-place-preserved g c =
    marked_more g.R.Rank.LEN c.args.marks.now c.loop-place.place c.loop-place.flags.items c.push-in-loop-place.new.self.items
    c.has_mark.result c.loop-place.invariant c.loop-place.auto.place c.in_ok-push-2.ensures.items c.has_mark.ensures
