use Rattle.std.proofs.Common.{length, inl, inr, refl, sym, ◌∙◌}
use Rattle.op_matrix.specs.Table.{place}
use Rattle.group_closing.proofs.Reaching.{room}
use Rattle.group_closing.proofs.closing.add.Goals as goal

pub push-requires : goal.push-requires
push-requires c =
    room c.args.marks.now (length c.args.found.now) (place c.args.op) c.requires.sized c.requires.counted
    c.has.ensures.below (sym c.has.ensures.is ∙ c.if-not-has.true)

pub returns-then-not-has : goal.returns-then-not-has
returns-then-not-has c = record {
  below = c.has.ensures.below;
  at = c.has.ensures.at;
  either = inr (sym c.has.ensures.is ∙ c.if-not-has.true, c.mark.ensures, c.push.ensures);
}

pub returns-else-not-has : goal.returns-else-not-has
returns-else-not-has c = record {
  below = c.has.ensures.below;
  at = c.has.ensures.at;
  either = inl (sym c.has.ensures.is ∙ c.if-not-has.false, refl, refl);
}
