use Rattle.list_laws.proofs.Kit.{◌≡◌, ◌≢◌, ap, arith, ◌∙◌, rules, get_or_read, ints}
use Rattle.std.proofs.Common.{set}
use lib.IntN.{ℤ, pos, ◌+ℤ◌}
use mir.Syntax.{w64}
use mir.Val.{SFits, to_z, of_z}
use Rattle.constraint_rows.specs.Gathering.{part, part_at_place, unit}
use Rattle.constraint_rows.specs.declared.rows.Part.{Part}
use Rattle.constraint_rows.proofs.GatherLaws.{counted_kept}
use Rattle.constraint_rows.proofs.gathering.count_at.Goals as goal

pub returns-else-number-eq0 : goal.returns-else-number-eq0
returns-else-number-eq0 c =
    let p : Part = c.index-part.result.now in
    let at : p ≡ part_at_place c.args.parts.now.items c.args.place = get_or_read c.args.parts.now.items c.args.place p c.requires.place c.index-part.ensures _ in
    let small : SFits w64 p.number = search rules in
    let fits : SFits w64 c.counted-number.result = search rules in
    let same : to_z w64 (of_z w64 p.number) ≡ p.number = omega (arith, ints) in
    let again : to_z w64 (of_z w64 c.counted-number.result) ≡ c.counted-number.result = omega (arith, ints) in
    let sum : c.counted-number.result ≡ p.number +ℤ unit c.args.sign = c.counted-number.ensures ∙ ap (λ (z : ℤ). z +ℤ unit c.args.sign) same in
    let other : c.counted-number.result ≢ pos 0 = λ e. c.if-number-eq0.false (ap (of_z w64) e) in
    ap (λ (z : ℤ). set c.args.parts.now.items c.args.place (part p.component z)) again
    ∙ counted_kept c.args.parts.now.items c.args.place p c.counted-number.result (unit c.args.sign) c.requires.place at sum other
