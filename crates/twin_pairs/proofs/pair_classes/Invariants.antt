use Rattle.std.specs.Prelude.{map}
use Rattle.twin_pairs.specs.Classes.{class_of}
use Rattle.twin_pairs.proofs.Assembly.{IsClassing, IsSeen}
use Rattle.twin_pairs.proofs.pair_classes.Given as goal

abbrev pub invariant-loop-place : goal.invariant-loop-place
invariant-loop-place l = record {
  classing : IsClassing l.states l.place (map class_of l.classes.items);
  seen : IsSeen (map class_of l.classes.items) l.seen;
}
