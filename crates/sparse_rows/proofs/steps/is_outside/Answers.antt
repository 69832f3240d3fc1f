use Rattle.list_laws.proofs.Kit.{◌<◌, ◌-◌, ◌+◌, ℕ, IsTrue, nat_lt, length, get_or, arith, subst, sym, nat_tests}
use Rattle.sparse_rows.specs.declared.entry.Entry.{Entry}
use Rattle.sparse_rows.proofs.RowSteps.{split-start, split-low, split-high, split-end, coeff-empty}
use Rattle.sparse_rows.proofs.steps.is_outside.Goals as goal

lt_told : (x y : ℕ) → IsTrue (nat_lt x y) → x < y
lt_told x y e = grind (arith, nat_tests)

pub returns-then-count-eq0 : goal.returns-then-count-eq0
returns-then-count-eq0 c = λ _. coeff-empty c.args.row.now c.args.at (omega arith)

pub returns-then-at-row : goal.returns-then-at-row
returns-then-at-row c =
    let xs = c.args.row.now in
    let h : 0 < length xs = omega arith in
    λ _. split-end xs c.args.at 0 0 (split-high xs c.args.at 0 (length xs) 0 c.index-row-0.result c.requires (split-start xs c.args.at) h c.index-row-0.is (subst (λ (e : Entry). c.args.at < e.unknown) (sym c.index-row-0.is) c.if-at-row.true)) (omega arith)

pub returns : goal.returns
returns c =
    let xs = c.args.row.now in
    let e = c.index-row-count.result in
    let h : length xs - 1 < length xs = omega arith in
    λ (t : IsTrue (nat_lt (get_or xs (length xs - 1) e).unknown c.args.at)).
    let k : e.unknown < c.args.at = subst (λ (x : Entry). x.unknown < c.args.at) (sym c.index-row-count.is) (lt_told (get_or xs (length xs - 1) e).unknown c.args.at t) in
    split-end xs c.args.at (length xs - 1 + 1) (length xs) (split-low xs c.args.at 0 (length xs) (length xs - 1) e c.requires (split-start xs c.args.at) h c.index-row-count.is k) (omega arith)
