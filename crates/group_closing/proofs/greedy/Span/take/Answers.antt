use Rattle.std.proofs.Common.{◌≡◌, ◌<◌, ◌++◌, ◌∷◌, [], ap, ◌∙◌, sym, subst, length}
use Rattle.group_closing.specs.Prelude.{IsClosed, HaveFrame, IsSpan}
use Rattle.group_closing.proofs.Reaching.{grows_trans}
use Rattle.group_closing.proofs.Doubling.{room_left, doubled_closed, taken_span}
use Rattle.group_closing.proofs.greedy.Span.take.Goals as goal

pub push-requires : goal.push-requires
push-requires c =
    subst (λ x. length x < 6) (sym c.double.ensures.taken)
    (room_left c.args.self.now.taken c.args.self.now.found c.double.new.self.found c.args.self.now.marks
    c.double.new.self.marks c.args.operation.now c.requires.span c.requires.frame c.double.ensures.doubled)

pub finish-requires-clause-frame : goal.finish-requires-clause-frame
finish-requires-clause-frame c =
    let e : c.as_slice.result.now ≡ c.args.self.now.taken ++ c.args.operation.now ∷ [] =
    c.as_slice.ensures.value ∙ c.push.ensures ∙ ap (λ x. x ++ c.args.operation.now ∷ []) c.double.ensures.taken in
    subst HaveFrame (sym e) c.requires.frame

pub finish-requires-clause-closed : goal.finish-requires-clause-closed
finish-requires-clause-closed c =
    let e : c.as_slice.result.now ≡ c.args.self.now.taken ++ c.args.operation.now ∷ [] =
    c.as_slice.ensures.value ∙ c.push.ensures ∙ ap (λ x. x ++ c.args.operation.now ∷ []) c.double.ensures.taken in
    subst (λ x. IsClosed x c.len-before.result c.double.new.self.marks c.double.new.self.found) (sym e)
    (subst (λ n. IsClosed (c.args.self.now.taken ++ c.args.operation.now ∷ []) n c.double.new.self.marks c.double.new.self.found) (sym c.len-before.ensures)
    (doubled_closed c.args.self.now.taken c.args.self.now.found c.double.new.self.found c.args.self.now.marks
    c.double.new.self.marks c.args.operation.now c.requires.span c.double.ensures.doubled))

pub returns-clause-span : goal.returns-clause-span
returns-clause-span c =
    let e : c.as_slice.result.now ≡ c.args.self.now.taken ++ c.args.operation.now ∷ [] =
    c.as_slice.ensures.value ∙ c.push.ensures ∙ ap (λ x. x ++ c.args.operation.now ∷ []) c.double.ensures.taken in
    subst (λ x. IsSpan x c.finish.new.marks c.finish.new.found) (sym e ∙ c.as_slice.ensures.value)
    (taken_span c.args.self.now.taken c.args.self.now.found c.double.new.self.found c.finish.new.found
    c.args.self.now.marks c.double.new.self.marks c.finish.new.marks c.args.operation.now c.requires.span
    c.requires.frame c.double.ensures.doubled
    (subst (λ x. IsClosed x (length c.finish.new.found) c.finish.new.marks c.finish.new.found) e c.finish.ensures.closed)
    c.finish.ensures.grows)

pub returns-clause-grows : goal.returns-clause-grows
returns-clause-grows c =
    grows_trans c.args.self.now.marks c.double.new.self.marks c.finish.new.marks c.args.self.now.found
    c.double.new.self.found c.finish.new.found c.double.ensures.doubled.grows c.finish.ensures.grows
