use Rattle.std.proofs.Common.{◌≡◌, ℕ, List, arith, length, subst}
use Rattle.form_lines.proofs.TextLaws.{IsMarkedUpTo, marks_done}
use Rattle.form_lines.proofs.writing.free_marks.Goals as goal

pub returns : goal.returns
returns g c =
    let n = g.R.Rank.LEN in
    let free : List ℕ = c.args.form.now.free in
    let end = c.free_count-place-end.ensures in
    let stop : c.loop-place.place ≡ length free = omega (arith, c.loop-place-test.false, end.is) in
    marks_done n g.R.Rank.R free c.loop-place.marks.items g.R.Rank.power end.below
    (subst (λ (p : ℕ). IsMarkedUpTo n free p c.loop-place.marks.items) stop c.loop-place.invariant.marks)
