use Rattle.std.proofs.Common.{◌≡◌, ◌-◌, ◌<◌, true, length, arith}
use Rattle.tensor_rank.specs.Prelude.{before_at, orders_strict}
use Rattle.constraint_rows.specs.Gathering.{part_at_place}
use Rattle.constraint_rows.proofs.GatherLaws.{before_front}
use Rattle.constraint_rows.proofs.gathering.place_for.Goals as goal

pub returns-else-not-before : goal.returns-else-not-before
returns-else-not-before g c =
    let before = before_at g.R.Rank.R c.args.order.now in
    let i = c.loop-place.place - 1 in
    let some = c.loop-place-test.true in
    let within = c.loop-place.invariant.within in
    let inside : i < length c.args.parts.now = omega (arith, some, within) in
    let hit : before (part_at_place c.args.parts.now i).component c.args.d ≡ true = cc in
    record {
      within = within;
      all = λ k l.
          before_front before (orders_strict g.R.Rank.R c.args.order.now).transitive c.args.d c.args.parts.now c.requires.rising i inside hit k
          (omega (arith, l, some));
      stop = c.loop-place.invariant.stop;
    }
