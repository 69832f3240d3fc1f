use Rattle.group_symbol.proofs.ParentTexts.{short_text}
use Rattle.group_symbol.proofs.parents.Parent.text.Goals as goal

pub returns-clause-short : goal.returns-clause-short
returns-clause-short c = rw c.row.ensures.text (short_text c.args.self.now)
