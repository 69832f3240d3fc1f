use Rattle.exact_frac.proofs.Wide.{sums_fit, sums_are}
use Rattle.exact_frac.proofs.lowest.cross_sum.Goals as goal

pub overflow_add-result : goal.overflow_add-result
overflow_add-result c =
    sums_fit c.args.p c.args.q c.args.m c.args.n c.requires.small_p c.requires.small_q c.requires.small_m c.requires.small_n

pub returns : goal.returns
returns c =
    sums_are c.args.p c.args.q c.args.m c.args.n c.requires.small_p c.requires.small_q c.requires.small_m c.requires.small_n
