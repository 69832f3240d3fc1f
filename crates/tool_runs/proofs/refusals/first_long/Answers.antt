use Rattle.std.proofs.Common.{◌≡◌, ℕ, ◌+◌, ◌<◌, ◌≤◌, length, map, string_bytes, subst, ap, arith, String, Global}
use Rattle.tool_runs.specs.Tools.{FirstLong}
use Rattle.tool_runs.proofs.LongWords.{first_here, none_long, short_more}
use Rattle.tool_runs.proofs.refusals.first_long.Goals as goal

pub returns-then-as_bytes-gt-LONGEST : goal.returns-then-as_bytes-gt-LONGEST
returns-then-as_bytes-gt-LONGEST c =
    let word = c.index-words-place.result in
    let size : length c.as_bytes.result.now ≡ length (string_bytes word) = ap length c.as_bytes.ensures.value in
    let one : 1 + c.loop-place.place ≡ c.loop-place.place + 1 = omega arith in
    let more : 4000 < length (string_bytes word) = omega (arith, c.if-as_bytes-gt-LONGEST.true, size) in
    subst (λ (n : ℕ). FirstLong (map string_bytes c.args.words.now) n) one
    (first_here string_bytes 1 c.args.words.now c.loop-place.place word c.loop-place-test.true
    (subst (λ (w : String Global). 4000 < length (string_bytes w)) c.index-words-place.is more) c.loop-place.invariant)

pub loop-place-preserved : goal.loop-place-preserved
loop-place-preserved c =
    let word = c.index-words-place.result in
    let size : length c.as_bytes.result.now ≡ length (string_bytes word) = ap length c.as_bytes.ensures.value in
    let short : length (string_bytes word) ≤ 4000 = omega (arith, c.if-as_bytes-gt-LONGEST.false, size) in
    short_more string_bytes c.args.words.now c.loop-place.place word c.loop-place-test.true
    (subst (λ (w : String Global). length (string_bytes w) ≤ 4000) c.index-words-place.is short) c.loop-place.invariant

pub returns : goal.returns
returns c = none_long string_bytes c.args.words.now c.loop-place.place (omega (arith, c.loop-place-test.false, c.loop-place.auto.place-end)) c.loop-place.invariant
