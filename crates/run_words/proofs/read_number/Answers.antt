use Rattle.std.proofs.Common.{ℕ, List, get_or, arith, subst, sym}
use Rattle.std.specs.Str.Parse.{AllDigits}
use Rattle.run_words.proofs.Numbers.{read_more, value_small, digit_at, digit_low, digit_high}
use Rattle.run_words.proofs.read_number.Goals.{then-byte-lt48-via-then-byte-lt48, then-byte-lt48-via-else-byte-lt48+then-byte-gt57}
use Rattle.run_words.proofs.read_number.Goals as goal

pub loop-byte-preserved : goal.loop-byte-preserved
loop-byte-preserved c =
    read_more c.as_bytes-bytes.result.now c.loop-byte.byte-index c.loop-byte.value (omega arith)
    c.if-byte-lt48.false c.if-byte-gt57.false c.loop-byte.invariant

pub returns-then-byte-lt48 : goal.returns-then-byte-lt48
returns-then-byte-lt48 c = λ n is.
    let bytes = c.as_bytes-bytes.result.now in
    let all : AllDigits 10 bytes = subst (λ (l : List ℕ). AllDigits 10 l) (sym c.as_bytes-bytes.ensures.value) is.digits in
    let digit = digit_at bytes c.loop-byte.byte-index (omega arith) all in
    let low = digit_low (get_or bytes c.loop-byte.byte-index 0) digit in
    let high = digit_high (get_or bytes c.loop-byte.byte-index 0) digit in
    elim c.then-byte-lt48.branch [
      | then-byte-lt48-via-then-byte-lt48 w ↦ absurd (omega (arith, low, w.if-byte-lt48.true))
      | then-byte-lt48-via-else-byte-lt48+then-byte-gt57 w ↦ absurd (omega (arith, high, w.if-byte-gt57.true))
    ]

pub overflow_mul-value : goal.overflow_mul-value
overflow_mul-value c =
    omega (
      arith,
      value_small c.as_bytes-bytes.result.now c.loop-byte.byte-index c.loop-byte.value (omega arith)
          c.loop-byte.invariant,
    )

pub overflow_add-value : goal.overflow_add-value
overflow_add-value c =
    let high = c.if-byte-gt57.false in
    omega (
      arith,
      value_small c.as_bytes-bytes.result.now c.loop-byte.byte-index c.loop-byte.value (omega arith)
          c.loop-byte.invariant,
      high,
    )
