use Rattle.list_laws.proofs.Kit.{◌≡◌, ◌-◌, suc, sym, subst, length, take, arith, ap, IfOk-weaker}
use Rattle.sparse_rows.specs.Prelude.{IsRow, kept_of, IsNegated, IsPivotSum}
use Rattle.sparse_rows.proofs.PivotSums.{row-has, row-take, pivot-sum}
use Rattle.sparse_rows.proofs.solution.pivot_sum.Goals as goal

pub overflow_sub-last : goal.overflow_sub-last
overflow_sub-last c =
    let h = row-has c.args.row.now.pivot c.args.row.now.entries.items c.requires.leading in
    let l = c.len-last.ensures in
    omega (arith, h, l)

pub negated-requires : goal.negated-requires
negated-requires c = row-take c.deref.result.now (c.len-last.result - 1) (subst IsRow (sym c.deref.ensures.value) c.requires.row)

pub returns : goal.returns
returns c =
    let all = c.args.row.now.entries.items in
    let p = c.args.row.now.pivot in
    let k = c.len-last.result - 1 in
    let xs = take k c.deref.result.now in
    let h = row-has p all c.requires.leading in
    let l = c.len-last.ensures in
    let e : length all ≡ suc k = omega (arith, h, l) in
    IfOk-weaker c.negated.result (λ v. IsNegated xs v.items) (λ v. IsPivotSum (kept_of c.args.row.now) v.items) (λ v n. pivot-sum p all k xs v.items c.requires.row c.requires.leading e (ap (take k) c.deref.ensures.value) n) c.negated.ensures
