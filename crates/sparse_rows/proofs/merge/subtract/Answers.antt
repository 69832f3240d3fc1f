use Rattle.std.proofs.Common.{◌+◌, ◌++◌, ◌∷◌, [], Some, None, ◌≡◌, ◌∙◌, ◌<◌, sym, subst, length, drop, arith}
use Rattle.tensor_defs.specs.Number.{value_of}
use Rattle.sparse_rows.specs.Rows.{coeff, IsLeft}
use Rattle.sparse_rows.proofs.Merging.{IsMerging, merge-start, merge-both, merge-none, grow-product, grow-both, always_err, above-at, at-left, at-right, heads-at, right-head, none-above, at-end}
use Rattle.sparse_rows.proofs.merge.subtract.Goals as goal
use Rattle.sparse_rows.proofs.merge.subtract.Goals.{then-i-row, else-i-row+then-j-other, in-Some+in_ok-put-5, in_default}

pub loop-i-init : goal.loop-i-init
loop-i-init c =
    let xs = c.args.row.now in
    let ys = c.args.other.now in
    let f = value_of c.args.factor.now in
    (subst (IsMerging (coeff xs) f (coeff ys) xs ys) (sym c.clear.ensures.items) (merge-start xs ys f c.requires.row c.requires.other), (omega arith), (omega arith))

pub loop-i-preserved-then-j-other-2 : goal.loop-i-preserved-then-j-other-2
loop-i-preserved-then-j-other-2 c =
    let xs = c.args.row.now in
    let ys = c.args.other.now in
    let f = value_of c.args.factor.now in
    let at : c.loop-i.j ≡ length ys = c.if-j-other-2.true in
    let h : c.loop-i.i < length xs = elim c.if-i-row.branch [ then-i-row w ↦ w.if-i-row.true | else-i-row+then-j-other w ↦ let k = w.if-j-other.true in absurd (omega (arith, k, at)) ] in (
      at-left (coeff xs) f (coeff ys) xs (drop c.loop-i.j ys) c.loop-i.out.items c.put.new.out.items c.loop-i.i c.index-row-i.result c.loop-i.invariant.0 h c.index-row-i.is
          (none-above c.index-row-i.result.unknown ys c.loop-i.j (omega (arith, at))) c.in_ok-put.ensures.put,
      (omega (arith, h)),
      c.loop-i.invariant.2,
    )

pub returns-in_err-negative-clause-grows : goal.returns-in_err-negative-clause-grows
returns-in_err-negative-clause-grows c =
    let xs = c.args.row.now in
    let ys = c.args.other.now in
    let f = value_of c.args.factor.now in
    let h : c.loop-i.j < length ys = let k = c.loop-i.invariant.2 in let d = c.if-j-other-2.false in omega (arith, k, d) in
    always_err c.from_residual-in_err-negative.result
    (grow-product (coeff xs) f (coeff ys) c.index-other-j.result (drop c.loop-i.i xs) _ c.loop-i.out.items (right-head (coeff xs) f (coeff ys) (drop c.loop-i.i xs) ys c.loop-i.out.items c.loop-i.j c.index-other-j.result c.loop-i.invariant.0 h c.index-other-j.is) c.in_err-negative.ensures.grows)

pub loop-i-preserved-then-i-row-2 : goal.loop-i-preserved-then-i-row-2
loop-i-preserved-then-i-row-2 c =
    let xs = c.args.row.now in
    let ys = c.args.other.now in
    let f = value_of c.args.factor.now in
    let b = c.index-other-j.result in
    let h : c.loop-i.j < length ys = let k = c.loop-i.invariant.2 in let d = c.if-j-other-2.false in omega (arith, k, d) in
    let at : c.loop-i.i ≡ length xs = c.if-i-row-2.true in (
      at-right (coeff xs) f (coeff ys) ys (drop c.loop-i.i xs) c.loop-i.out.items c.put-then-i-row-2.new.out.items c.loop-i.j b c.in_ok-negative.field-0 c.loop-i.invariant.0 h c.index-other-j.is
          (none-above b.unknown xs c.loop-i.i (omega (arith, at))) c.in_ok-negative.ensures.entry c.in_ok-put-2.ensures.put,
      c.loop-i.invariant.1,
      (omega (arith, h)),
    )

pub loop-i-preserved-then-a-b : goal.loop-i-preserved-then-a-b
loop-i-preserved-then-a-b c =
    let xs = c.args.row.now in
    let ys = c.args.other.now in
    let f = value_of c.args.factor.now in
    let a = c.index-row-i-else-i-row-2.result in
    let b = c.index-other-j-else-i-row-2.result in
    let h : c.loop-i.j < length ys = let k = c.loop-i.invariant.2 in let d = c.if-j-other-2.false in omega (arith, k, d) in
    let l : c.loop-i.i < length xs = let k = c.loop-i.invariant.1 in let d = c.if-i-row-2.false in omega (arith, k, d) in (
      at-left (coeff xs) f (coeff ys) xs (drop c.loop-i.j ys) c.loop-i.out.items c.put-then-a-b.new.out.items c.loop-i.i a c.loop-i.invariant.0 l c.index-row-i-else-i-row-2.is
          (above-at a b ys c.loop-i.j h c.index-other-j-else-i-row-2.is c.loop-i.invariant.0.row_b c.if-a-b.true) c.in_ok-put-3.ensures.put,
      (omega (arith, l)),
      c.loop-i.invariant.2,
    )

pub returns-in_err-negative-2-clause-grows : goal.returns-in_err-negative-2-clause-grows
returns-in_err-negative-2-clause-grows c =
    let xs = c.args.row.now in
    let ys = c.args.other.now in
    let f = value_of c.args.factor.now in
    let b = c.index-other-j-else-i-row-2.result in
    let h : c.loop-i.j < length ys = let k = c.loop-i.invariant.2 in let d = c.if-j-other-2.false in omega (arith, k, d) in
    always_err c.from_residual-in_err-negative-2.result
    (grow-product (coeff xs) f (coeff ys) b (drop c.loop-i.i xs) _ c.loop-i.out.items (right-head (coeff xs) f (coeff ys) (drop c.loop-i.i xs) ys c.loop-i.out.items c.loop-i.j b c.loop-i.invariant.0 h c.index-other-j-else-i-row-2.is) c.in_err-negative-2.ensures.grows)

pub loop-i-preserved-then-b-a : goal.loop-i-preserved-then-b-a
loop-i-preserved-then-b-a c =
    let xs = c.args.row.now in
    let ys = c.args.other.now in
    let f = value_of c.args.factor.now in
    let a = c.index-row-i-else-i-row-2.result in
    let b = c.index-other-j-else-i-row-2.result in
    let h : c.loop-i.j < length ys = let k = c.loop-i.invariant.2 in let d = c.if-j-other-2.false in omega (arith, k, d) in
    let l : c.loop-i.i < length xs = let k = c.loop-i.invariant.1 in let d = c.if-i-row-2.false in omega (arith, k, d) in (
      at-right (coeff xs) f (coeff ys) ys (drop c.loop-i.i xs) c.loop-i.out.items c.put-then-b-a.new.out.items c.loop-i.j b c.in_ok-negative-2.field-0 c.loop-i.invariant.0 h c.index-other-j-else-i-row-2.is
          (above-at b a xs c.loop-i.i l c.index-row-i-else-i-row-2.is c.loop-i.invariant.0.row_a c.if-b-a.true) c.in_ok-negative-2.ensures.entry c.in_ok-put-4.ensures.put,
      c.loop-i.invariant.1,
      (omega (arith, h)),
    )

pub returns-in_err-entry-clause-grows : goal.returns-in_err-entry-clause-grows
returns-in_err-entry-clause-grows c =
    let xs = c.args.row.now in
    let ys = c.args.other.now in
    let f = value_of c.args.factor.now in
    let a = c.index-row-i-else-i-row-2.result in
    let b = c.index-other-j-else-i-row-2.result in
    let h : c.loop-i.j < length ys = let k = c.loop-i.invariant.2 in let d = c.if-j-other-2.false in omega (arith, k, d) in
    let l : c.loop-i.i < length xs = let k = c.loop-i.invariant.1 in let d = c.if-i-row-2.false in omega (arith, k, d) in
    let u : a.unknown ≡ b.unknown = let p = c.if-a-b.false in let q = c.if-b-a.false in omega (arith, p, q) in
    always_err c.from_residual-in_err-entry.result
    (grow-both (coeff xs) f (coeff ys) a b _ _ c.loop-i.out.items (heads-at (coeff xs) f (coeff ys) xs ys c.loop-i.out.items c.loop-i.i c.loop-i.j a b c.loop-i.invariant.0 l c.index-row-i-else-i-row-2.is h c.index-other-j-else-i-row-2.is) u c.in_err-entry.ensures.grows)

pub loop-i-preserved : goal.loop-i-preserved
loop-i-preserved c =
    let xs = c.args.row.now in
    let ys = c.args.other.now in
    let f = value_of c.args.factor.now in
    let a = c.index-row-i-else-i-row-2.result in
    let b = c.index-other-j-else-i-row-2.result in
    let h : c.loop-i.j < length ys = let k = c.loop-i.invariant.2 in let d = c.if-j-other-2.false in omega (arith, k, d) in
    let l : c.loop-i.i < length xs = let k = c.loop-i.invariant.1 in let d = c.if-i-row-2.false in omega (arith, k, d) in
    let u : a.unknown ≡ b.unknown = let p = c.if-a-b.false in let q = c.if-b-a.false in omega (arith, p, q) in
    let m = heads-at (coeff xs) f (coeff ys) xs ys c.loop-i.out.items c.loop-i.i c.loop-i.j a b c.loop-i.invariant.0 l c.index-row-i-else-i-row-2.is h c.index-other-j-else-i-row-2.is in (
      elim c.match-branch-8.branch [
        | in-Some+in_ok-put-5 w ↦
            let e = w.in-Some.entry in
            let n : IsLeft f a b (Some e) = subst (IsLeft f a b) w.in-Some.is c.in_ok-entry.ensures.entry in
            let o : c.match-branch-8.out.items ≡ c.loop-i.out.items ++ e ∷ [] = (λ i. (w.out-is i).items) ∙ w.in_ok-put-5.ensures.put in
            subst (IsMerging (coeff xs) f (coeff ys) (drop (c.loop-i.i + 1) xs) (drop (c.loop-i.j + 1) ys)) (sym o)
            (merge-both (coeff xs) f (coeff ys) a b e (drop (c.loop-i.i + 1) xs) (drop (c.loop-i.j + 1) ys) c.loop-i.out.items m u n.calm n.unknown n.value n.entry)
        | in_default w ↦
            let n : IsLeft f a b None = subst (IsLeft f a b) w.in_default.is c.in_ok-entry.ensures.entry in
            let o : c.match-branch-8.out.items ≡ c.loop-i.out.items = λ i. (w.out-is i).items in
            subst (IsMerging (coeff xs) f (coeff ys) (drop (c.loop-i.i + 1) xs) (drop (c.loop-i.j + 1) ys)) (sym o)
            (merge-none (coeff xs) f (coeff ys) a b (drop (c.loop-i.i + 1) xs) (drop (c.loop-i.j + 1) ys) c.loop-i.out.items m u n.1 n.0)
      ],
      (omega (arith, l)),
      (omega (arith, h)),
    )

pub returns-clause-difference : goal.returns-clause-difference
returns-clause-difference c =
    at-end (coeff c.args.row.now) (value_of c.args.factor.now) (coeff c.args.other.now) c.args.row.now c.args.other.now c.loop-i.out.items c.loop-i.i c.loop-i.j c.loop-i.invariant.0 c.if-i-row.false c.if-j-other.false
