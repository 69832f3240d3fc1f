use Rattle.std.proofs.Common.{◌<◌, ◌+◌, [], ◌∷◌, ◌++◌, length, ◌∙◌, ap, arith}
use Rattle.group_closing.specs.Marks.{mark_at}
use Rattle.twin_pairs.proofs.list_members.Goals.{then-marks-place+in_ok-push-2, else-marks-place}
use Rattle.twin_pairs.proofs.Listings.{listed_one, listed_push, listed_skip, listed_done}
use Rattle.twin_pairs.proofs.list_members.Goals as goal

pub loop-place-init : goal.loop-place-init
loop-place-init c = λ i j w a. listed_one c.args.states.now c.args.element.now i j w a c.args.k c.push.new.self.items (c.in_ok-push.ensures.items ∙ ap (λ xs. xs ++ c.args.k ∷ []) c.in_ok-numbers.ensures.items) c.requires.least c.requires.inside c.requires.first

pub loop-place-preserved : goal.loop-place-preserved
loop-place-preserved c = λ i j w a. elim c.if-marks-place.branch [
  | then-marks-place+in_ok-push-2 y ↦ listed_push c.args.states.now c.args.element.now i j w a c.args.k c.loop-place.place c.loop-place.numbers.items c.if-marks-place.numbers.items (mark_at c.mark_states-last.result.marks (c.loop-place.place + 1)) (c.loop-place.invariant i j w a) (let h : c.loop-place.place < length c.args.states.now.reps = (let n = c.count.ensures.is in let e = c.min-place-end.ensures in let t = c.loop-place-test.true in omega (arith, n, e, t)) in h) (ap (λ v. v.items) y.numbers-is ∙ y.in_ok-push-2.ensures.items) (c.mark_states-last.ensures.marked.tells (c.loop-place.place + 1)) y.if-marks-place.true
  | else-marks-place y ↦ listed_skip c.args.states.now c.args.element.now i j w a c.args.k c.loop-place.place c.loop-place.numbers.items c.if-marks-place.numbers.items (mark_at c.mark_states-last.result.marks (c.loop-place.place + 1)) (c.loop-place.invariant i j w a) (ap (λ v. v.items) y.numbers-is) (c.mark_states-last.ensures.marked.tells (c.loop-place.place + 1)) y.if-marks-place.false
]

pub returns : goal.returns
returns c =
    let n = c.count.ensures.is in
    let e = c.min-place-end.ensures in
    let t = c.loop-place-test.false in
    listed_done c.args.states.now c.args.element.now c.count.ensures.groups.0 c.count.ensures.groups.1 c.count.ensures.within c.count.ensures.states c.args.k
    c.loop-place.place c.mark_states-last.result.last c.loop-place.numbers.items c.mark_states-last.result.marks
    (c.loop-place.invariant c.count.ensures.groups.0 c.count.ensures.groups.1 c.count.ensures.within c.count.ensures.states)
    c.mark_states-last.ensures.marked c.mark_states-last.ensures.last (omega (arith, n, e, t))
