use Rattle.std.proofs.Common.{◌≡◌, ◌<◌, ◌∙◌, ap, arith, length, refl, List, ℕ}
use Rattle.text_defs.specs.Refusals.{heading}
use Rattle.text_defs.specs.declared.Format.TheVariants.{One}
use Rattle.tensor_defs.specs.Lists.{same_numbers_in}
use Rattle.line_runs.proofs.LongLines.{other_length, stands_false, stands_true, heading_told}
use Rattle.line_runs.proofs.lines.tells_two.Goals as goal

pub returns-then-is_long : goal.returns-then-is_long
returns-then-is_long c = λ whole stands.
    let more : 1000 < length whole = stands_true One c.args.is_long c.args.line.now whole c.if-is_long.true stands in
    let eight : length heading ≡ 8 = refl in
    other_length whole heading (omega (arith, more, eight))

pub returns : goal.returns
returns c = λ whole stands.
    ap (λ (l : List ℕ). same_numbers_in l heading) (stands_false c.args.is_long c.args.line.now whole c.if-is_long.false stands)
    ∙ heading_told c.args.line.now _ c.is_heading_line.ensures
