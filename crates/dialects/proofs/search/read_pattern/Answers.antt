use Rattle.std.proofs.Common.{ap, Err}
use Rattle.dialects.proofs.Patterns.{no_symbol, no_accepted, pattern_compared}
use Rattle.dialects.proofs.search.read_pattern.Goals as goal

pub returns-in_default : goal.returns-in_default
returns-in_default c = no_symbol c.args.place c.args.setting c.args.primes c.args.grey c.args.word.now c.in_default.ensures

pub returns-in-Ok : goal.returns-in-Ok
returns-in-Ok c =
    pattern_compared c.args.place c.args.setting c.args.primes c.args.grey c.as_slice.result.now c.args.word.now c.in-Some.tree
    c.compared.result c.in-Some.ensures.1 (rw c.as_slice.ensures.value c.in-Ok.ensures.text) c.compared.ensures

pub returns-in-Err-Primes : goal.returns-in-Err-Primes
returns-in-Err-Primes c =
    no_accepted c.args.place c.args.setting c.args.primes c.args.grey c.args.word.now c.in-Some.tree c.in-Some.ensures.1
    (c.in-Err-Primes.ensures.primes (ap Err c.in-Err-Primes.field-0-is))
