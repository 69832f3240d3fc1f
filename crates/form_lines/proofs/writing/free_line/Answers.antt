use Rattle.std.proofs.Common.{refl}
use Rattle.form_lines.proofs.NameLaws.{line_last}
use Rattle.form_lines.proofs.writing.free_line.Goals as goal

pub returns : goal.returns
returns g c =
    line_last _ 6 c.six_digits-digits.ensures c.number.ensures.same c.number.ensures.in_range g.R.Rank.power c.R.ensures g.R.Rank.small refl
