use Rattle.std.proofs.Common.{◌≡◌, refl, ◌∙◌, ◌<◌, sym, arith, length, get_or, true}
use Rattle.text_defs.specs.GroupTexts.{ends_operator}
use Rattle.group_symbol.proofs.WalkSteps.{Stands-start, Stands-end, Stands-short, Stands-wrong, Stands-plain, Stands-unprimed, Stands-primed}
use Rattle.group_symbol.proofs.read.read_signs.Goals as goal
use Rattle.group_symbol.proofs.read.read_signs.Goals.{then-at-word-via-then-at-word, then-at-word-via-else-at-word+then-word-at, then-ends_operator, else-ends_operator, then-at-word-2+then-word-at-eq39, else-at-word-2, else-at-word-2-via-then-at-word-2+else-word-at-eq39, else-at-word-2-via-else-at-word-2}

pub loop-sign-init : goal.loop-sign-init
loop-sign-init c = Stands-start c.args.signs.now c.args.word.now c.requires

pub returns-then-at-word-clause-read : goal.returns-then-at-word-clause-read
returns-then-at-word-clause-read c =
    let h = c.loop-sign.invariant in
    elim c.then-at-word.branch [
      | then-at-word-via-then-at-word w ↦ Stands-short c.args.signs.now c.args.word.now c.loop-sign.sign-index c.loop-sign.at _ _ _ h (omega arith) (omega arith)
      | then-at-word-via-else-at-word+then-word-at w ↦ Stands-wrong c.args.signs.now c.args.word.now c.loop-sign.sign-index c.loop-sign.at _ _ _ h (omega arith) (omega arith) w.if-word-at.true
    ]

pub loop-sign-preserved : goal.loop-sign-preserved
loop-sign-preserved c =
    let h = c.loop-sign.invariant in
    let signs = c.args.signs.now in
    let word = c.args.word.now in
    let i = c.loop-sign.sign-index in
    let at = c.loop-sign.at in
    let more : i < length signs = omega arith in
    let some : at < length word = omega arith in
    let same : get_or word at 0 ≡ get_or signs i 0 = c.if-word-at.false in
    elim c.if-ends_operator.branch [
      | then-ends_operator w ↦
          let operator : ends_operator c.loop-sign.previous (get_or signs i 0) ≡ true = sym c.ends_operator.ensures ∙ w.if-ends_operator.true in
          elim w.if-at-word-2.branch [
            | then-at-word-2+then-word-at-eq39 v ↦ rw (w.primes-is, w.bit-is, w.previous-is, w.at-is, v.primes-is, v.at-is) (Stands-primed signs word i at _ _ _ h _ refl more some same operator v.if-at-word-2.true v.if-word-at-eq39.true)
            | else-at-word-2 v ↦
                rw (w.primes-is, w.bit-is, w.previous-is, w.at-is, v.primes-is, v.at-is) (Stands-unprimed signs word i at _ _ _ h _ refl more some same operator
                (elim v.else-at-word-2.branch [
                  | else-at-word-2-via-then-at-word-2+else-word-at-eq39 u ↦ λ _. u.if-word-at-eq39.false
                  | else-at-word-2-via-else-at-word-2 u ↦ λ lt. absurd (omega arith)
                ]))
          ]
      | else-ends_operator w ↦
          rw (w.primes-is, w.bit-is, w.previous-is, w.at-is) (Stands-plain signs word i at _ _ _ h _ refl more some same (sym c.ends_operator.ensures ∙ w.if-ends_operator.false))
    ]

pub returns-clause-read : goal.returns-clause-read
returns-clause-read c = Stands-end c.args.signs.now c.args.word.now c.loop-sign.sign-index c.loop-sign.at _ _ _ c.loop-sign.invariant (omega arith)
