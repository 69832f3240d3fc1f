use Rattle.std.proofs.Common.{◌≡◌, ◌++◌, [], ◌∷◌, sym, ◌∙◌, ap, arith}
use Rattle.op_matrix.specs.Table.{place}
use Rattle.op_matrix.proofs.Facts.{place_of_nth}
use Rattle.group_closing.specs.Marks.{mark_at}
use Rattle.group_closing.proofs.Marked.{marked_next, marked_past}
use Rattle.group_closing.proofs.listing.list_places.Goals as goal
use Rattle.group_closing.proofs.listing.list_places.Goals.{then-has+in_ok-push, else-has}

pub loop-place-preserved : goal.loop-place-preserved
loop-place-preserved c =
    let at : place c.at_place-operation.result ≡ c.loop-place.place =
    ap place c.at_place-operation.ensures ∙ place_of_nth c.loop-place.place (omega arith) in
    let told : c.has.result ≡ mark_at c.args.marks.now c.loop-place.place =
    c.has.ensures.is ∙ ap (mark_at c.args.marks.now) at in
    elim c.if-has.branch [
      | then-has+in_ok-push w ↦ ap (λ v. v.items) w.elements-is ∙ w.in_ok-push.ensures.items ∙
          (λ i. c.loop-place.invariant i ++ c.at_place-operation.ensures i ∷ []) ∙
          sym (marked_next c.loop-place.place c.args.marks.now (sym told ∙ w.if-has.true))
      | else-has w ↦ ap (λ v. v.items) w.elements-is ∙ c.loop-place.invariant ∙
          sym (marked_past c.loop-place.place c.args.marks.now (sym told ∙ w.if-has.false))
    ]
