use Rattle.std.proofs.Common.{◌≡◌, arith}
use Rattle.dialects.proofs.Patterns.{primes_none, primes_more, setting_all}
use Rattle.dialects.proofs.search.read_in_setting.Goals as goal

pub loop-primes-init : goal.loop-primes-init
loop-primes-init c =
    primes_none c.args.place c.args.setting c.args.word.now c.in-Err.fault.place (rw c.in-Err.is at c.in_ok-tree.ensures)

pub loop-primes-preserved : goal.loop-primes-preserved
loop-primes-preserved c =
    rw c.max-furthest.ensures
    (primes_more c.args.place c.args.setting c.args.word.now c.loop-primes.primes c.loop-primes.furthest c.in-Err-2.fault.place
    c.loop-primes.invariant (rw c.in-Err-2.is at c.in_ok-tree-2.ensures))

pub returns : goal.returns
returns c =
    let e : c.loop-primes.primes ≡ 16 = omega arith in
    setting_all c.args.place c.args.setting c.args.word.now c.loop-primes.furthest (rw e at c.loop-primes.invariant)
