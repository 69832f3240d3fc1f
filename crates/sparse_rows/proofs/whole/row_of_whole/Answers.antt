use Rattle.list_laws.proofs.Kit.{◌≡◌, ◌≢◌, ◌∙◌, ◌<◌, ◌+◌, refl, sym, subst, length, get_or, drop, arith, true, false, get_or_default}
use Rattle.tensor_defs.specs.Number.{num_zero, whole, value_of}
use Rattle.exact_frac.specs.Held.{IsHeldAs}
use Rattle.sparse_rows.specs.WholeRows.{whole_line}
use Rattle.sparse_rows.proofs.Wholes.{IsTaking, taking-start, skip-at, more-at, taking-end, none, read-back}
use Rattle.sparse_rows.proofs.whole.row_of_whole.Goals as goal
use Rattle.sparse_rows.proofs.whole.row_of_whole.Goals.{then-not-is_zero+in-Ok, else-not-is_zero}

pub loop-entry-init : goal.loop-entry-init
loop-entry-init c =
    let ws = c.args.entries.now in
    (subst (IsTaking (whole_line ws) ws) (sym c.new-taken.ensures.items) (taking-start ws c.requires), (omega arith))

pub loop-entry-preserved : goal.loop-entry-preserved
loop-entry-preserved c =
    let ws = c.args.entries.now in
    let i = c.loop-entry.entry-index in
    let w = get_or ws i none in
    let f = c.of_whole-value.result in
    let h : i < length ws = c.loop-entry-test.true in
    let m = c.loop-entry.invariant.0 in
    let e : w ≡ get_or ws i w = get_or_default ws i none (get_or ws i none) h in
    let v : IsHeldAs (whole w.number) f = subst (λ x. IsHeldAs x f) (read-back (whole_line ws) ws i w c.loop-entry.taken.items m h e) c.of_whole-value.ensures.value in
    elim c.if-not-is_zero.branch [
      | then-not-is_zero+in-Ok b ↦
          let z : value_of f ≢ num_zero = λ p.
          let t : c.is_zero.result ≡ true = c.is_zero.ensures.1 p in
          let q : c.is_zero.result ≡ false = b.if-not-is_zero.true in
          cc
          in (
            more-at (whole_line ws) ws i w c.loop-entry.taken.items c.if-not-is_zero.taken.items (record { unknown = w.unknown; value = f }) m h e
                refl v.same (record { held = v.held; not_zero = z }) ((λ j. (b.taken-is j).items) ∙ b.in-Ok.ensures.ok),
            (omega (arith, h)),
          )
      | else-not-is_zero b ↦
          let z : whole w.number ≡ num_zero = v.same ∙ c.is_zero.ensures.0 b.if-not-is_zero.false in
          (subst (IsTaking (whole_line ws) (drop (i + 1) ws)) (λ j. (sym b.taken-is j).items) (skip-at (whole_line ws) ws i w c.loop-entry.taken.items m h e z), (omega (arith, h)))
    ]

pub returns : goal.returns
returns c = taking-end c.args.entries.now c.loop-entry.entry-index c.loop-entry.taken.items c.loop-entry.invariant.0 c.loop-entry-test.false
