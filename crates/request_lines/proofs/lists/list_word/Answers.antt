use Rattle.std.proofs.Common.{◌≡◌, ◌≤◌, ◌<◌, ℕ, length, inr, arith, subst}
use Rattle.request_lines.specs.Readings.{NthWord}
use Rattle.request_lines.proofs.WordLists.{Counted-first, Counted-next, Counted-past, Counted-word, span}
use Rattle.request_lines.proofs.lists.list_word.Goals as goal

pub loop-place-init : goal.loop-place-init
loop-place-init c = Counted-first c.args.line.now c.args.list c.word_end-end.result c.requires c.word_end-end.ensures

pub returns-then-end-line : goal.returns-then-end-line
returns-then-end-line c = λ js t.
    let le : length c.args.line.now ≤ c.loop-place.end = omega arith in
    let past = Counted-past c.args.line.now c.args.list c.loop-place.start c.loop-place.end c.loop-place._place c.loop-place.invariant le js t in
    inr (omega (arith, past, c.loop-place-test.true))

pub word_end-end-requires-in-loop-place : goal.word_end-end-requires-in-loop-place
word_end-end-requires-in-loop-place c = omega (arith, c.loop-place.invariant.ends.fits, c.if-end-line.false)

pub loop-place-preserved : goal.loop-place-preserved
loop-place-preserved c =
    let inside : c.loop-place.end < length c.args.line.now = omega (arith, c.loop-place.invariant.ends.fits, c.if-end-line.false) in
    Counted-next c.args.line.now c.args.list c.loop-place.start c.loop-place.end c.loop-place._place c.loop-place.invariant inside c.word_end-end-in-loop-place.result c.word_end-end-in-loop-place.ensures

pub returns : goal.returns
returns c = λ js t.
    let P : ℕ → Type 0 = λ (n : ℕ). NthWord c.args.line.now js n (span c.loop-place.start c.loop-place.end) in
    let is : c.loop-place._place ≡ c.args.number = omega (arith, c.loop-place-test.false, c.if-number-eq0.false) in
    subst P is (Counted-word c.args.line.now c.args.list c.loop-place.start c.loop-place.end c.loop-place._place c.loop-place.invariant js t)
