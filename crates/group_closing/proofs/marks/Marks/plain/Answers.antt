use Rattle.group_closing.proofs.Doubling.{plain_marked}
use Rattle.group_closing.proofs.marks.Marks.plain.Goals as goal

pub returns : goal.returns
returns c = plain_marked
