use Rattle.std.proofs.Common.{◌≡◌, ◌<◌, ◌+◌, List, refl, sym, subst, length, drop, arith}
use Rattle.sparse_rows.specs.Prelude.{coeff, kepts, lines, AreRows, AreMarked}
use Rattle.sparse_rows.specs.declared.entry.Entry.{Entry}
use Rattle.sparse_rows.proofs.Lines.{IsState, grows-reducing}
use Rattle.sparse_rows.proofs.RowSteps.{state-at, skip-at, keep-at, keep-fails, state-done, reduced-same, reducing_same, seen-more, seen-same, kept-same, cannot-same, err-same}
use Rattle.sparse_rows.proofs.elimination.eliminate.Goals as goal
use Rattle.sparse_rows.proofs.elimination.eliminate.Goals.{then-len-gt0+in_ok-kept, else-len-gt0}

pub returns-in_err-reduce_row-clause-grows : goal.returns-in_err-reduce_row-clause-grows
returns-in_err-reduce_row-clause-grows c =
    let rs = c.args.rows.now in
    let i = c.loop-row.row-index in
    let r = c.row-item.result in
    let h : i < length rs = c.loop-row-test.true in
    let s = state-at (lines rs) (kepts c.loop-row.kept.items) rs i r c.loop-row.invariant.0 h c.row-item.is in
    err-same c.from_residual.result c.in_err-reduce_row.field-0.0 c.from_residual.ensures.1 (λ p. grows-reducing (lines rs) (kepts c.loop-row.kept.items) (coeff r.entries.items) (lines (drop (i + 1) rs)) s
    (reducing_same _ _ _ _ c.deref-in-loop-row.ensures.value c.deref.ensures (c.in_err-reduce_row.ensures.grows p)))

pub returns-in_err-kept-clause-grows : goal.returns-in_err-kept-clause-grows
returns-in_err-kept-clause-grows c =
    let rs = c.args.rows.now in
    let i = c.loop-row.row-index in
    let r = c.row-item.result in
    let h : i < length rs = c.loop-row-test.true in
    let s = state-at (lines rs) (kepts c.loop-row.kept.items) rs i r c.loop-row.invariant.0 h c.row-item.is in
    let d = reduced-same _ _ _ _ c.reduce_row.new.left.items c.deref-in-loop-row.ensures.value c.deref.ensures c.in_ok-reduce_row.ensures.reduced in
    err-same c.from_residual-in_err-kept.result c.in_err-kept.field-0.0 c.from_residual-in_err-kept.ensures.1 (λ p. keep-fails (lines rs) (kepts c.loop-row.kept.items) (coeff r.entries.items) (lines (drop (i + 1) rs)) c.reduce_row.new.left.items s d
    (cannot-same c.loop-row.kept.items _ _ _ refl c.deref-then-len-gt0.ensures.value (c.in_err-kept.ensures.grows p)))

pub loop-row-preserved : goal.loop-row-preserved
loop-row-preserved c =
    let rs = c.args.rows.now in
    let i = c.loop-row.row-index in
    let r = c.row-item.result in
    let h : i < length rs = c.loop-row-test.true in
    let s = state-at (lines rs) (kepts c.loop-row.kept.items) rs i r c.loop-row.invariant.0 h c.row-item.is in
    let d = reduced-same _ _ _ _ c.reduce_row.new.left.items c.deref-in-loop-row.ensures.value c.deref.ensures c.in_ok-reduce_row.ensures.reduced in
    elim c.if-len-gt0.branch [
      | then-len-gt0+in_ok-kept w ↦
          let k = kept-same c.loop-row.kept.items _ _ c.if-len-gt0.kept.items _ _ refl w.deref-then-len-gt0.ensures.value (λ j. (w.kept-is j).items) w.in_ok-kept.ensures.kept in
          let m : AreMarked c.loop-row.seen r.entries.items w.mark_all.new.marks =
          subst (λ (x : List Entry). AreMarked c.loop-row.seen x w.mark_all.new.marks) w.deref-then-len-gt0-2.ensures w.mark_all.ensures in (
            keep-at (lines rs) (kepts c.loop-row.kept.items) (coeff r.entries.items) (lines (drop (i + 1) rs)) c.reduce_row.new.left.items c.if-len-gt0.kept.items s d k,
            k.are_rows,
            (omega (arith, h)),
            seen-same w.mark_all.new.marks c.if-len-gt0.seen c.if-len-gt0.kept.items c.if-len-gt0.kept.items w.seen-is refl
                (seen-more c.loop-row.seen w.mark_all.new.marks (kepts c.loop-row.kept.items) r.entries.items c.reduce_row.new.left.items c.if-len-gt0.kept.items
                c.loop-row.invariant.3 m d k),
          )
      | else-len-gt0 w ↦
          let e : c.if-len-gt0.kept.items ≡ c.loop-row.kept.items = λ j. (w.kept-is j).items in
          let z : length c.reduce_row.new.left.items ≡ 0 = let q = w.if-len-gt0.false in let l = c.len.ensures in omega (arith, q, l) in (
            subst (λ l. IsState (lines rs) (kepts l) (lines (drop (i + 1) rs))) (sym e) (skip-at (lines rs) (kepts c.loop-row.kept.items) (coeff r.entries.items) (lines (drop (i + 1) rs)) c.reduce_row.new.left.items s d z),
            subst AreRows (sym e) c.loop-row.invariant.1,
            (omega (arith, h)),
            seen-same c.loop-row.seen c.if-len-gt0.seen c.loop-row.kept.items c.if-len-gt0.kept.items w.seen-is e c.loop-row.invariant.3,
          )
    ]

pub returns-clause-eliminated : goal.returns-clause-eliminated
returns-clause-eliminated c = state-done (lines c.args.rows.now) (kepts c.loop-row.kept.items) c.args.rows.now c.loop-row.row-index c.loop-row.invariant.0 c.loop-row-test.false
