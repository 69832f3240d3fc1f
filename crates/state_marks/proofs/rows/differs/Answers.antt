use Rattle.state_marks.proofs.RowTells.{both_tell, factors_tell}
use Rattle.state_marks.proofs.rows.differs.Goals as goal

pub returns-then-factors_differ : goal.returns-then-factors_differ
returns-then-factors_differ c =
    factors_tell c.args.sums.now c.args.terms.now c.requires.rising c.requires.within c.if-factors_differ.ensures

pub returns : goal.returns
returns c =
    both_tell c.args.sums.now c.args.terms.now c.requires.rising c.args.row.now c.requires.row c.sums_differ.result
    c.if-factors_differ.ensures c.sums_differ.ensures
