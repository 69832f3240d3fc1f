use Rattle.std.proofs.Common.{ap, arith, sym, ◌∙◌, subst}
use Rattle.tensor_rank.specs.Orders.{before_at}
use Rattle.constraint_rows.specs.Prelude.{AreSmallParts, term_added, AreParts}
use Rattle.constraint_rows.proofs.GatherLaws.{gathered_more, gathered_small}
use Rattle.constraint_rows.proofs.words.gather.Goals as goal

pub add_term-requires-clause-even : goal.add_term-requires-clause-even
add_term-requires-clause-even g c =
    subst (AreSmallParts g.R.Rank.LEN (before_at g.R.Rank.R c.args.order.now) 729) (sym c.loop-place.invariant.even)
    (gathered_small g.R.Rank.LEN g.R.Rank.R g.R.Rank.power c.args.order.now c.args.classes.now c.requires.sound 0 c.args.terms.now
    c.requires.below c.requires.few c.loop-place.place (omega arith))

pub add_term-requires-clause-odd : goal.add_term-requires-clause-odd
add_term-requires-clause-odd g c =
    subst (AreSmallParts g.R.Rank.LEN (before_at g.R.Rank.R c.args.order.now) 729) (sym c.loop-place.invariant.odd)
    (gathered_small g.R.Rank.LEN g.R.Rank.R g.R.Rank.power c.args.order.now c.args.classes.now c.requires.sound 1 c.args.terms.now
    c.requires.below c.requires.few c.loop-place.place (omega arith))

pub loop-place-preserved : goal.loop-place-preserved
loop-place-preserved g c = record {
  even =
      c.in_ok-add_term.ensures.even
      ∙ ap (term_added (before_at g.R.Rank.R c.args.order.now) c.args.classes.now 0 _) c.loop-place.invariant.even
      ∙ gathered_more (before_at g.R.Rank.R c.args.order.now) c.args.classes.now 0 c.args.terms.now c.loop-place.place _ c.loop-place-test.true;
  odd =
      c.in_ok-add_term.ensures.odd
      ∙ ap (term_added (before_at g.R.Rank.R c.args.order.now) c.args.classes.now 1 _) c.loop-place.invariant.odd
      ∙ gathered_more (before_at g.R.Rank.R c.args.order.now) c.args.classes.now 1 c.args.terms.now c.loop-place.place _ c.loop-place-test.true;
}

pub returns-clause-even_parts : goal.returns-clause-even_parts
returns-clause-even_parts g c =
    subst (AreParts g.R.Rank.LEN) (sym c.loop-place.invariant.even)
    (gathered_small g.R.Rank.LEN g.R.Rank.R g.R.Rank.power c.args.order.now c.args.classes.now c.requires.sound 0 c.args.terms.now
    c.requires.below c.requires.few c.loop-place.place (omega arith)).parts

pub returns-clause-odd_parts : goal.returns-clause-odd_parts
returns-clause-odd_parts g c =
    subst (AreParts g.R.Rank.LEN) (sym c.loop-place.invariant.odd)
    (gathered_small g.R.Rank.LEN g.R.Rank.R g.R.Rank.power c.args.order.now c.args.classes.now c.requires.sound 1 c.args.terms.now
    c.requires.below c.requires.few c.loop-place.place (omega arith)).parts
