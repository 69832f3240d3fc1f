use Rattle.std.proofs.Common.{◌≡◌, ◌∙◌, ◌<◌, ap, sym, length, arith}
use Rattle.tensor_defs.specs.Number.{value_of}
use Rattle.sparse_rows.specs.Rows.{coeff}
use Rattle.sparse_rows.proofs.RowSteps.{found-at, found-entry, split-low, split-high, split-end, middle-below}
use Rattle.sparse_rows.proofs.steps.find.Goals as goal

pub returns-then-entry-at : goal.returns-then-entry-at
returns-then-entry-at c =
    let xs = c.args.row.now in
    let e = c.index-row-middle.result in
    let h = middle-below c.loop-low.low c.loop-low.high (length xs) c.loop-low-test.true c.loop-low.invariant.1 in
    let p : coeff xs c.args.at ≡ value_of e.value = ap (coeff xs) (sym c.if-entry-at.true) ∙ found-at xs _ e h c.index-row-middle.is c.requires in
    let entry = found-entry xs _ e c.requires h c.index-row-middle.is in
    (record { same = p; held = entry.held }, λ z. entry.not_zero (sym p ∙ z))

pub loop-low-preserved-then-entry-at-2 : goal.loop-low-preserved-then-entry-at-2
loop-low-preserved-then-entry-at-2 c =
    let xs = c.args.row.now in
    let h = middle-below c.loop-low.low c.loop-low.high (length xs) c.loop-low-test.true c.loop-low.invariant.1 in
    (split-low xs c.args.at c.loop-low.low c.loop-low.high _ c.index-row-middle.result c.requires c.loop-low.invariant.0 h c.index-row-middle.is c.if-entry-at-2.true, c.loop-low.invariant.1)

pub loop-low-preserved : goal.loop-low-preserved
loop-low-preserved c =
    let xs = c.args.row.now in
    let e = c.index-row-middle.result in
    let h = middle-below c.loop-low.low c.loop-low.high (length xs) c.loop-low-test.true c.loop-low.invariant.1 in
    let k : c.args.at < e.unknown = let p = c.if-entry-at.false in let q = c.if-entry-at-2.false in omega (arith, p, q) in
    (split-high xs c.args.at c.loop-low.low c.loop-low.high _ e c.requires c.loop-low.invariant.0 h c.index-row-middle.is k, (omega (arith, h)))

pub returns : goal.returns
returns c = split-end c.args.row.now c.args.at c.loop-low.low c.loop-low.high c.loop-low.invariant.0 c.loop-low-test.false
