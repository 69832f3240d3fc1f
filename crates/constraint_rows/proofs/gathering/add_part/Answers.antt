use Rattle.list_laws.proofs.Kit.{◌≡◌, ◌≢◌, ◌<◌, List, ap, arith, sym, ◌∙◌, subst, length, get_or_read, ints}
use Rattle.std.specs.Prelude.{insert}
use mir.Syntax.{w64}
use mir.Val.{to_z, of_z}
use Rattle.tensor_rank.specs.Orders.{before_at}
use Rattle.constraint_rows.specs.Gathering.{IsPlaceFor, part, part_at_place, unit}
use Rattle.constraint_rows.specs.declared.rows.Part.{Part}
use Rattle.constraint_rows.proofs.GatherLaws.{added_new, added_old, nothing_and}
use Rattle.constraint_rows.proofs.gathering.add_part.Goals as goal
use Rattle.constraint_rows.proofs.gathering.add_part.Goals.{else-place-len-via-then-place-len+else-index-number, else-place-len-via-else-place-len}

pub returns-then-index-number : goal.returns-then-index-number
returns-then-index-number g c =
    let before = before_at g.R.Rank.R c.args.order.now in
    let ps : List Part = c.args.parts.now.items in
    let place : IsPlaceFor before c.args.d ps c.place_for-place.result =
    subst (λ (xs : List Part). IsPlaceFor before c.args.d xs c.place_for-place.result) c.deref.ensures.value c.place_for-place.ensures in
    let len = ap length c.deref.ensures.value in
    let inside : c.place_for-place.result < length ps = omega (arith, len, c.deref.ensures.len, c.len.ensures, c.if-place-len.true) in
    let at : c.index.result.now ≡ part_at_place ps c.place_for-place.result = get_or_read ps c.place_for-place.result c.index.result.now inside c.index.ensures _ in
    let same : (part_at_place ps c.place_for-place.result).component ≡ c.args.d =
    sym (ap (λ p. p.component) at) ∙ c.if-index-number.true ∙ c.number.ensures.same in
    c.count_at.ensures ∙ sym (added_old before c.args.d (unit c.args.sign) ps c.place_for-place.result place inside same)

pub returns : goal.returns
returns g c =
    let before = before_at g.R.Rank.R c.args.order.now in
    let ps : List Part = c.args.parts.now.items in
    let i = c.place_for-place.result in
    let place : IsPlaceFor before c.args.d ps i = subst (λ (xs : List Part). IsPlaceFor before c.args.d xs i) c.deref.ensures.value c.place_for-place.ensures in
    let len = ap length c.deref.ensures.value in
    let other : i < length ps → (part_at_place ps i).component ≢ c.args.d =
    elim c.else-place-len.branch [
      | else-place-len-via-then-place-len+else-index-number w ↦ λ inside e.
          let at : w.index.result.now ≡ part_at_place ps i = get_or_read ps i w.index.result.now inside w.index.ensures _ in
          w.if-index-number.false (ap (λ p. p.component) at ∙ e ∙ sym w.number.ensures.same)
      | else-place-len-via-else-place-len w ↦ λ inside e. absurd (omega (arith, inside, len, c.deref.ensures.len, c.len.ensures, w.if-place-len.false))
    ] in
    let again : to_z w64 (of_z w64 c.counted-number.result) ≡ c.counted-number.result = omega (arith, ints) in
    let number : to_z w64 (of_z w64 c.counted-number.result) ≡ unit c.args.sign = again ∙ c.counted-number.ensures ∙ nothing_and c.args.sign in
    c.in_ok-insert.ensures.items ∙ (λ n. insert ps i (part (c.number-2.ensures.same n) (number n)))
    ∙ sym (added_new before c.args.d (unit c.args.sign) ps i place other)
