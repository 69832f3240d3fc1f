use Rattle.list_laws.proofs.Kit.{◌≡◌, ◌≢◌, ◌∙◌, ◌<◌, ◌+◌, ◌-◌, suc, refl, sym, subst, length, drop, arith, drop_all}
use Rattle.list_laws.proofs.Lists.{drop_head}
use Rattle.tensor_defs.specs.Number.{num_zero, value_of}
use Rattle.exact_frac.specs.Held.{inverse_of}
use Rattle.sparse_rows.specs.Rows.{coeff}
use Rattle.sparse_rows.proofs.Merging.{always_err}
use Rattle.sparse_rows.proofs.RowSteps.{IsScaling, scaling-start, scaling-step, scaling-grows, scaling-nonzero, scaled-row, last-pivot, last-value, found-entry}
use Rattle.sparse_rows.proofs.steps.scale.Goals as goal

pub loop-entry-init : goal.loop-entry-init
loop-entry-init c =
    let xs = c.args.row.now in
    let w = inverse_of c.index-row-row.result.value in
    (subst (IsScaling (coeff xs) w xs) (sym c.in_ok-entries.ensures.empty) (scaling-start xs w c.requires.row), (omega arith))

pub quotient-requires : goal.quotient-requires
quotient-requires c =
    let xs = c.args.row.now in
    let s = c.requires.some in
    let h : suc (length xs - 1) ≡ length xs = omega (arith, s) in
    (last-value xs (length xs - 1) c.index-row-row.result h c.index-row-row.is c.requires.row).1.not_zero

pub returns-in_err-value-clause-grows : goal.returns-in_err-value-clause-grows
returns-in_err-value-clause-grows c =
    let xs = c.args.row.now in
    let x = c.index-row-row.result in
    let w = inverse_of x.value in
    let i = c.loop-entry.entry-index in
    let s = c.requires.some in
    let h : suc (length xs - 1) ≡ length xs = omega (arith, s) in
    let m = subst (λ A. IsScaling (coeff xs) w A c.loop-entry.entries.items) (drop_head xs i c.entry-item.result c.loop-entry-test.true c.entry-item.is) c.loop-entry.invariant.0 in
    always_err c.from_residual-in_err-value.result (record {
      place = x.unknown;
      inverse = w;
      pivot = last-pivot xs (length xs - 1) x h c.index-row-row.is c.requires.row;
      grows = scaling-grows (coeff xs) w c.entry-item.result (drop (i + 1) xs) c.loop-entry.entries.items x.unknown m c.in_err-value.ensures.grows;
    })

pub loop-entry-preserved : goal.loop-entry-preserved
loop-entry-preserved c =
    let xs = c.args.row.now in
    let x = c.index-row-row.result in
    let w = inverse_of x.value in
    let i = c.loop-entry.entry-index in
    let a = c.entry-item.result in
    let l : i < length xs = c.loop-entry-test.true in
    let s = c.requires.some in
    let h : suc (length xs - 1) ≡ length xs = omega (arith, s) in
    let m = subst (λ A. IsScaling (coeff xs) w A c.loop-entry.entries.items) (drop_head xs i a l c.entry-item.is) c.loop-entry.invariant.0 in
    let v = c.in_ok-value.ensures.exact in
    let last = (last-value xs (length xs - 1) x h c.index-row-row.is c.requires.row).1 in
    let z : value_of c.in_ok-value.value ≢ num_zero =
    λ e. scaling-nonzero a.value x.value last.held (found-entry xs i a c.requires.row l c.entry-item.is).not_zero last.not_zero (v.same ∙ e) in (
      subst (IsScaling (coeff xs) w (drop (i + 1) xs)) (sym c.in_ok-put.ensures.put)
          (scaling-step (coeff xs) w a (record { unknown = a.unknown; value = c.in_ok-value.value }) (drop (i + 1) xs) c.loop-entry.entries.items m refl (sym v.same) (record { held = v.held; not_zero = z })),
      (omega (arith, l)),
    )

pub returns-clause-scaled : goal.returns-clause-scaled
returns-clause-scaled c =
    let xs = c.args.row.now in
    let x = c.index-row-row.result in
    let w = inverse_of x.value in
    let s = c.requires.some in
    let h : suc (length xs - 1) ≡ length xs = omega (arith, s) in
    scaled-row (coeff xs) w x.unknown _ (subst (λ A. IsScaling (coeff xs) w A c.loop-entry.entries.items) (drop_all c.loop-entry.entry-index xs c.loop-entry-test.false) c.loop-entry.invariant.0)
    (last-pivot xs (length xs - 1) x h c.index-row-row.is c.requires.row) refl
