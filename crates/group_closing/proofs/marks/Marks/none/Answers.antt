use Rattle.group_closing.proofs.Digits.{no_digits}
use Rattle.group_closing.proofs.marks.Marks.none.Goals as goal

pub returns : goal.returns
returns c = no_digits
