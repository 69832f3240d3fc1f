use Rattle.std.proofs.Common.{◌≡◌, ◌≤◌, ◌<◌, ◌+◌, ℕ, arith, refl, subst}
use Rattle.number_words.specs.Runs.{IsAt}
use Rattle.check_runs.proofs.Names.{named_whole, no_digit, no_equals, read_more, read_none, small_axis, small_read, stuck_start}
use Rattle.check_runs.proofs.settings.read_component.Goals as goal

pub returns-then-not-has_at : goal.returns-then-not-has_at
returns-then-not-has_at g c = stuck_start g.R.Rank.R c.args.word.now (rw c.if-not-has_at.true at c.has_at.ensures)

pub loop-place-init : goal.loop-place-init
loop-place-init g c = read_none c.args.word.now (rw c.if-not-has_at.false at c.has_at.ensures)

pub overflow_mul-number : goal.overflow_mul-number
overflow_mul-number g c =
    let small : g.R.Rank.R ≤ 6 = g.R.Rank.small in
    let few : c.loop-place.place ≤ 6 = omega (arith, c.R-place-end.ensures, c.loop-place-test.true) in
    omega (arith, small_read c.args.word.now c.loop-place.place c.loop-place.number c.loop-place.invariant few)

pub overflow_add-number : goal.overflow_add-number
overflow_add-number g c =
    let small : g.R.Rank.R ≤ 6 = g.R.Rank.small in
    let few : c.loop-place.place ≤ 6 = omega (arith, c.R-place-end.ensures, c.loop-place-test.true) in
    let axis : c.in-Some.axis < 3 = small_axis c.in-Some.axis c.in-Some.ensures.0 c.in-Some.ensures.2 in
    omega (arith, small_read c.args.word.now c.loop-place.place c.loop-place.number c.loop-place.invariant few)

pub returns-in-None : goal.returns-in-None
returns-in-None g c =
    let less : c.loop-place.place < g.R.Rank.R = omega (arith, c.R-place-end.ensures, c.loop-place-test.true) in
    no_digit g.R.Rank.R c.args.word.now c.loop-place.place c.loop-place.number c.loop-place.invariant less c.in-None.ensures

pub loop-place-preserved : goal.loop-place-preserved
loop-place-preserved g c =
    read_more c.args.word.now c.loop-place.place c.loop-place.number c.in-Some.axis _ c.in-Some.ensures.0 c.loop-place.invariant
    c.in-Some.ensures.1 c.in-Some.ensures.2 refl

pub returns-then-not-has_at-2 : goal.returns-then-not-has_at-2
returns-then-not-has_at-2 g c =
    let same : c.loop-place.place ≡ g.R.Rank.R = omega (arith, c.R-place-end.ensures, c.loop-place-test.false, c.loop-place.auto.place-end) in
    let none : IsAt c.args.word.now (1 + c.R.result) 61 → ⊥ = rw c.if-not-has_at-2.true at c.has_at-2.ensures in
    rw c.R-then-not-has_at-2.ensures
    (no_equals g.R.Rank.R c.args.word.now c.loop-place.place c.loop-place.number c.loop-place.invariant same
    (subst (λ (n : ℕ). IsAt c.args.word.now (1 + n) 61 → ⊥) c.R.ensures none))

pub returns : goal.returns
returns g c =
    let same : c.loop-place.place ≡ g.R.Rank.R = omega (arith, c.R-place-end.ensures, c.loop-place-test.false, c.loop-place.auto.place-end) in
    let at_end : IsAt c.args.word.now (1 + c.R.result) 61 = rw c.if-not-has_at-2.false at c.has_at-2.ensures in
    named_whole g.R.Rank.R c.args.word.now c.loop-place.place c.loop-place.number c.loop-place.invariant same
    (subst (λ (n : ℕ). IsAt c.args.word.now (1 + n) 61) c.R.ensures at_end)
