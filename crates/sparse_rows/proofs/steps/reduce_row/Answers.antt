use Rattle.std.proofs.Common.{◌≡◌, ◌∙◌, ◌<◌, ◌+◌, ap, sym, subst, length, drop, false, arith}
use Rattle.tensor_defs.specs.Number.{value_of}
use Rattle.sparse_rows.specs.Prelude.{coeff, IsRow, is_marked, kept_of, kepts, IsFound}
use Rattle.sparse_rows.proofs.Marking.{met-less, met-same}
use Rattle.sparse_rows.proofs.RowSteps.{IsReducing, err-same, reduced-away, reducing-at, reducing-grows, times-same, reducing-skip, reducing-less, difference-same}
use Rattle.sparse_rows.proofs.steps.reduce_row.Goals as goal
use Rattle.sparse_rows.proofs.steps.reduce_row.Goals.{then-is_marked+in-Some+in_ok-subtract, then-is_marked+in_default, else-is_marked}

pub returns-then-not-meets-clause-reduced : goal.returns-then-not-meets-clause-reduced
returns-then-not-meets-clause-reduced c =
    reduced-away c.args.seen.now (kepts c.args.kept.now) c.args.row.now c.copy_to.new.out.items c.requires.seen c.requires.leading
    (c.meets.ensures c.if-not-meets.true) c.requires.row c.in_ok-copy_to.ensures.copied

pub returns-in_err-subtract-clause-grows : goal.returns-in_err-subtract-clause-grows
returns-in_err-subtract-clause-grows c =
    let ks = c.args.kept.now in
    let i = c.loop-k.k-index in
    let k = c.k-item.result in
    let f = value_of c.in-Some.factor in
    let found = subst (IsFound (coeff c.deref.result.now k.pivot)) c.in-Some.is c.find.ensures in
    let line : coeff c.deref.result.now k.pivot ≡ coeff c.loop-k.left.items k.pivot = λ j. coeff (c.deref.ensures.value j) k.pivot in
    err-same c.from_residual-in_err-subtract.result c.in_err-subtract.field-0.0 c.from_residual-in_err-subtract.ensures.1
    (λ p. reducing-grows ks (coeff c.args.row.now) (coeff c.loop-k.left.items) i k f c.loop-k.invariant.0 c.loop-k-test.true c.k-item.is
    (sym found.0.same ∙ line) (λ z. found.1 (line ∙ z))
    (times-same _ _ _ _ f c.deref-in-Some.ensures.value c.deref-in-Some-2.ensures.value (c.in_err-subtract.ensures.grows p)))

pub loop-k-preserved : goal.loop-k-preserved
loop-k-preserved c =
    let ks = c.args.kept.now in
    let ρ0 = coeff c.args.row.now in
    let i = c.loop-k.k-index in
    let k = c.k-item.result in
    let ρ = coeff c.loop-k.left.items in
    let h : i < length ks = c.loop-k-test.true in
    let skip = reducing-skip (kepts ks) ρ0 (kept_of k) (kepts (drop (i + 1) ks)) ρ (reducing-at ks ρ0 ρ i k c.loop-k.invariant.0 h c.k-item.is) in
    elim c.if-is_marked.branch [
      | then-is_marked+in-Some+in_ok-subtract w ↦
          let f = value_of w.in-Some.factor in
          let n = subst (IsFound (coeff w.deref.result.now k.pivot)) w.in-Some.is w.find.ensures in
          let d = difference-same _ _ _ _ _ c.if-is_marked.left.items f w.deref-in-Some.ensures.value w.deref-in-Some-2.ensures.value ((λ j. (w.left-is j).items) ∙ ap (λ v. v.items) w.swap.ensures.x_after) w.in_ok-subtract.ensures.difference in (
            reducing-less ks ρ0 ρ i k f c.if-is_marked.left.items c.loop-k.invariant.0 h c.k-item.is (sym n.0.same ∙ (λ j. coeff (w.deref.ensures.value j) k.pivot)) d,
            d.is_row,
            (omega (arith, h)),
            met-less c.loop-k.marks _ c.if-is_marked.marks c.loop-k.left.items _ k.entries.items c.if-is_marked.left.items f w.marks-is w.deref-in-Some-3.ensures.value c.loop-k.invariant.3
                w.mark_all-in-Some.ensures d,
          )
      | then-is_marked+in_default w ↦
          let n = subst (IsFound (coeff w.deref.result.now k.pivot)) w.in_default.is w.find.ensures in
          let e : c.if-is_marked.left.items ≡ c.loop-k.left.items = λ j. (w.left-is j).items in (
            subst (λ xs. IsReducing (kepts ks) ρ0 (kepts (drop (i + 1) ks)) (coeff xs)) (sym e) (skip ((λ j. coeff (sym w.deref.ensures.value j) k.pivot) ∙ n)),
            subst IsRow (sym e) c.loop-k.invariant.1,
            (omega (arith, h)),
            met-same c.loop-k.marks c.if-is_marked.marks c.loop-k.left.items c.if-is_marked.left.items w.marks-is e c.loop-k.invariant.3,
          )
      | else-is_marked w ↦
          let away : is_marked c.loop-k.marks k.pivot ≡ false = sym c.is_marked.ensures ∙ w.if-is_marked.false in
          let e : c.if-is_marked.left.items ≡ c.loop-k.left.items = λ j. (w.left-is j).items in (
            subst (λ xs. IsReducing (kepts ks) ρ0 (kepts (drop (i + 1) ks)) (coeff xs)) (sym e) (skip (c.loop-k.invariant.3.zero k.pivot away)),
            subst IsRow (sym e) c.loop-k.invariant.1,
            (omega (arith, h)),
            met-same c.loop-k.marks c.if-is_marked.marks c.loop-k.left.items c.if-is_marked.left.items w.marks-is e c.loop-k.invariant.3,
          )
    ]
