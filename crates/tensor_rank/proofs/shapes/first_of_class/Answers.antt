use Rattle.std.proofs.Common.{◌≡◌, arith, sym, ◌∙◌}
use Rattle.tensor_rank.proofs.FirstLaws.{first_start, first_own, first_root, first_end, first_lowest}
use Rattle.tensor_rank.proofs.shapes.first_of_class.Goals as goal

pub returns-then-is_index : goal.returns-then-is_index
returns-then-is_index g c =
    first_lowest g.R.Rank.LEN g.R.Rank.R c.args.classes.now c.args.order.now c.args.root g.R.Rank.power
    (sym c.is_index.ensures ∙ c.if-is_index.true) c.requires.in_range c.requires.root c.requires.lower

pub loop-number-init : goal.loop-number-init
loop-number-init g c = record { first = first_start c.args.root c.requires.in_range c.requires.root }

pub earlier-best-requires-clause-first : goal.earlier-best-requires-clause-first
earlier-best-requires-clause-first g c = first_own c.loop-number.invariant.first

pub loop-number-preserved : goal.loop-number-preserved
loop-number-preserved g c = record { first = first_root c.earlier-best.ensures c.loop-number.invariant.first.same_class }

pub returns : goal.returns
returns g c =
    let end : c.loop-number.number ≡ g.R.Rank.LEN = omega (arith, c.loop-number-test.false) in
    first_end c.loop-number.invariant.first end
