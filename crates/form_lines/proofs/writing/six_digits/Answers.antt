use Rattle.form_lines.proofs.NameLaws.{six_text}
use Rattle.form_lines.proofs.writing.six_digits.Goals as goal

pub returns : goal.returns
returns c = six_text c.args.number c.requires
