use Rattle.std.proofs.Common.{◌≡◌, arith, length}
use Rattle.text_defs.specs.Languages.{IsFaulty}
use Rattle.group_symbol.specs.Parts.{IsFullTextOf}
use Rattle.group_symbol.proofs.Alternatives.{first_tried, tried_next, all_tried}
use Rattle.group_symbol.proofs.read.read_group.Goals as goal
use Rattle.group_symbol.proofs.read.read_group.Goals.{else-furthest-eq2-via-then-furthest-eq2+else-word-eq2, else-furthest-eq2-via-else-furthest-eq2}

pub loop-number-init : goal.loop-number-init
loop-number-init c =
    let f = c.common_front-furthest.ensures in
    let part : c.common_front-furthest.result ≡ 2 → length c.args.word.now ≡ 2 → ⊥ =
    λ front whole. elim c.else-furthest-eq2.branch [
      | else-furthest-eq2-via-then-furthest-eq2+else-word-eq2 w ↦ w.if-word-eq2.false whole
      | else-furthest-eq2-via-else-furthest-eq2 w ↦ w.if-furthest-eq2.false front
    ]
    in
    first_tried c.args.word.now c.common_front-furthest.result f.within_a f.within_b f.same f.differ part

pub loop-number-preserved : goal.loop-number-preserved
loop-number-preserved c =
    let word = c.args.word.now in
    let faulty : IsFaulty (IsFullTextOf c.loop-number.number) word c.in-Err.fault.place = c.in-Err.ensures in
    rw c.max-furthest.ensures (tried_next word c.loop-number.number c.loop-number.furthest (omega arith) c.loop-number.invariant c.in-Err.fault.place faulty)

pub returns : goal.returns
returns c =
    let e : c.loop-number.number ≡ 43 = omega arith in
    all_tried c.args.word.now c.loop-number.furthest (rw e at c.loop-number.invariant)
