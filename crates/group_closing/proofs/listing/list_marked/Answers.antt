use Rattle.std.proofs.Common.{◌≡◌, ◌*◌, ◌+◌, sym, ◌∙◌, ap, arith}
use Rattle.group_closing.specs.Marks.{marked_below}
use Rattle.group_closing.proofs.Digits.{gap_skipped}
use Rattle.group_closing.proofs.listing.list_marked.Goals as goal

pub loop-matrix-init : goal.loop-matrix-init
unfolding marked_below
loop-matrix-init c = (
  c.next_digit-matrix.ensures.within,
  c.in_ok-elements.ensures.items
      ∙ sym (gap_skipped c.matrices-matrices.result c.args.marks.now 0 c.next_digit-matrix.result c.matrices-matrices.ensures
      (omega arith) c.next_digit-matrix.ensures.within c.next_digit-matrix.ensures.least),
)

pub list_places-requires-clause-before : goal.list_places-requires-clause-before
list_places-requires-clause-before c = c.loop-matrix.invariant.1

pub loop-matrix-preserved : goal.loop-matrix-preserved
loop-matrix-preserved c =
    let next = c.next_digit-matrix-in-loop-matrix in
    let e : 2 * c.loop-matrix.matrix + 2 ≡ 2 * (c.loop-matrix.matrix + 1) = omega arith in (
      next.ensures.within,
      c.in_ok-list_places.ensures ∙ ap (λ k. marked_below k c.args.marks.now) e
          ∙ sym (gap_skipped c.matrices-matrices.result c.args.marks.now (c.loop-matrix.matrix + 1) next.result c.matrices-matrices.ensures
          next.ensures.reaches next.ensures.within next.ensures.least),
    )

pub returns-clause-listed : goal.returns-clause-listed
returns-clause-listed c =
    let l = c.loop-matrix.invariant.0 in
    let e : 2 * c.loop-matrix.matrix ≡ 128 = omega (arith, l, c.loop-matrix-test.false) in
    c.loop-matrix.invariant.1 ∙ ap (λ k. marked_below k c.args.marks.now) e
