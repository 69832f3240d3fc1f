use Rattle.std.proofs.Common.{◌≡◌, ◌∙◌, ◌<◌, length, get_or, sym, true, arith}
use Rattle.text_defs.specs.GroupTexts.{ends_operator}
use Rattle.group_symbol.proofs.Written.{written_plain, written_unprimed, written_primed, all_written}
use Rattle.group_symbol.proofs.write.push_signs.Goals as goal
use Rattle.group_symbol.proofs.write.push_signs.Goals.{then-ends_operator, then-left-eq1, else-left-eq1, else-ends_operator}

pub loop-sign-preserved : goal.loop-sign-preserved
loop-sign-preserved c =
    let h = c.loop-sign.invariant in
    let signs = c.args.signs.now in
    let i = c.loop-sign.sign-index in
    let more : i < length signs = omega arith in
    elim c.if-ends_operator.branch [
      | then-ends_operator w ↦
          let operator : ends_operator c.loop-sign.previous (get_or signs i 0) ≡ true = sym c.ends_operator.ensures ∙ w.if-ends_operator.true in
          elim w.if-left-eq1.branch [
            | then-left-eq1 v ↦ rw (w.text-is, w.left-is, w.previous-is, v.text-is, v.push-then-left-eq1.ensures, c.push.ensures) (written_primed _ signs _ _ i _ _ h more operator v.if-left-eq1.true)
            | else-left-eq1 v ↦ rw (w.text-is, w.left-is, w.previous-is, v.text-is, c.push.ensures) (written_unprimed _ signs _ _ i _ _ h more operator v.if-left-eq1.false)
          ]
      | else-ends_operator w ↦
          rw (w.text-is, w.left-is, w.previous-is, c.push.ensures) (written_plain _ signs _ _ i _ _ h more (sym c.ends_operator.ensures ∙ w.if-ends_operator.false))
    ]

pub returns-clause-value : goal.returns-clause-value
returns-clause-value c = all_written _ c.args.signs.now _ _ c.loop-sign.sign-index _ _ c.loop-sign.invariant (omega arith)
