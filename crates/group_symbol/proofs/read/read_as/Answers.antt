use Rattle.list_laws.proofs.Kit.{◌≡◌, ◌-◌, arith, length, drop, take, Ok, Err, eqb, err_from_is_err_and, take_all}
use Rattle.std.proofs.lemmas.List.{length-drop}
use Rattle.text_defs.specs.Languages.{IsFaulty}
use Rattle.group_symbol.specs.Walks.{walk}
use Rattle.group_symbol.specs.Parts.{IsEnding}
use Rattle.group_symbol.proofs.ParentTexts.{EndingOf, few_operators, signs_wrong, ending_wrong, ending_right, symbol_is, signs_taken}
use Rattle.group_symbol.proofs.WalkSteps.{Stands-start, Stands-wrong}
use Rattle.group_symbol.proofs.read.read_as.Goals as goal

pub read_signs-requires : goal.read_signs-requires
read_signs-requires c = rw c.text-signs.ensures.value (few_operators c.args.parent)

pub returns-then-begin_apart : goal.returns-then-begin_apart
returns-then-begin_apart c =
    let signs = c.text-signs.result.now in
    let word = c.args.word.now in
    let b = c.begin_apart.ensures in
    let t = c.if-begin_apart.true in
    let w : walk 0 signs word ≡ Err 0 = Stands-wrong signs word 0 0 _ _ _ (Stands-start signs word (rw c.text-signs.ensures.value (few_operators c.args.parent))) (b.signs t) (b.word t) (b.apart t) in
    signs_wrong c.args.parent c.text-signs.ensures.first c.text-signs.ensures.last word 0 (rw c.text-signs.ensures.value at w)

pub returns-in_err-primes : goal.returns-in_err-primes
returns-in_err-primes c =
    let p = err_from_is_err_and c.from_residual.result c.from_residual.ensures.1 in
    let w : walk 0 c.text-signs.result.now c.args.word.now ≡ Err c.in_err-primes.field-0.0.place = c.in_err-primes.ensures.read in
    rw (p.1, p.2) (signs_wrong c.args.parent c.text-signs.ensures.first c.text-signs.ensures.last c.args.word.now c.in_err-primes.field-0.0.place (rw c.text-signs.ensures.value at w))

pub invariant_of-result : goal.invariant_of-result
invariant_of-result c =
    let w : walk 0 c.text-signs.result.now c.args.word.now ≡ Ok (c.in_ok-primes.primes, c.in_ok-primes.front) = c.in_ok-primes.ensures.read in
    let few = signs_taken c.args.parent c.text-signs.ensures.first c.text-signs.ensures.last c.args.word.now c.in_ok-primes.primes c.in_ok-primes.front (rw c.text-signs.ensures.value at w) in
    symbol_is c.args.parent c.in_ok-primes.primes c.in-Ok.grey c.in-Ok.setting (take (length c.args.word.now - c.in_ok-primes.front) (drop c.in_ok-primes.front c.args.word.now)) c.text-signs.ensures.first c.text-signs.ensures.last few.0 c.in-Ok.ensures

pub returns-in-Ok : goal.returns-in-Ok
returns-in-Ok c =
    let w : walk 0 c.text-signs.result.now c.args.word.now ≡ Ok (c.in_ok-primes.primes, c.in_ok-primes.front) = c.in_ok-primes.ensures.read in
    let rest : take (length c.args.word.now - c.in_ok-primes.front) (drop c.in_ok-primes.front c.args.word.now) ≡ drop c.in_ok-primes.front c.args.word.now = take_all _ _ (omega (arith, length-drop c.in_ok-primes.front c.args.word.now)) in
    let e : IsEnding c.args.parent (eqb c.in_ok-primes.primes 0) (take (length c.args.word.now - c.in_ok-primes.front) (drop c.in_ok-primes.front c.args.word.now)) c.in-Ok.grey c.in-Ok.setting = c.in-Ok.ensures in
    ending_right c.args.parent c.text-signs.ensures.first c.text-signs.ensures.last c.args.word.now c.in_ok-primes.primes c.in_ok-primes.front (rw c.text-signs.ensures.value at w) c.in-Ok.grey c.in-Ok.setting (rw rest at e)

pub returns-in-Err : goal.returns-in-Err
returns-in-Err c =
    let w : walk 0 c.text-signs.result.now c.args.word.now ≡ Ok (c.in_ok-primes.primes, c.in_ok-primes.front) = c.in_ok-primes.ensures.read in
    let rest : take (length c.args.word.now - c.in_ok-primes.front) (drop c.in_ok-primes.front c.args.word.now) ≡ drop c.in_ok-primes.front c.args.word.now = take_all _ _ (omega (arith, length-drop c.in_ok-primes.front c.args.word.now)) in
    let f : IsFaulty (EndingOf c.args.parent c.in_ok-primes.primes) (take (length c.args.word.now - c.in_ok-primes.front) (drop c.in_ok-primes.front c.args.word.now)) c.in-Err.fault.place = c.in-Err.ensures in
    ending_wrong c.args.parent c.text-signs.ensures.first c.text-signs.ensures.last c.args.word.now c.in_ok-primes.primes c.in_ok-primes.front (rw c.text-signs.ensures.value at w) c.in-Err.fault.place (rw rest at f)
