use Rattle.std.proofs.Common.{ap, ◌∙◌}
use Rattle.voigt_table.specs.Blocks.{entry_at, sizes_of}
use Rattle.voigt_table.proofs.EntryLaws.{entry_told}
use Rattle.voigt_table.proofs.entries.Blocks.entry_of.Goals as goal

pub returns-clause-numbers : goal.returns-clause-numbers
returns-clause-numbers c =
    ap (entry_at (sizes_of c.args.self)) c.entry_at.ensures.value ∙ entry_told c.args.self c.args.component c.requires
