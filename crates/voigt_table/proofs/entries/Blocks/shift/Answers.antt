use Rattle.std.proofs.Common.{ap, ◌∙◌}
use Rattle.tensor_defs.specs.Voigt.{shift}
use Rattle.voigt_table.specs.Blocks.{entry_at, entry_of, sizes_of}
use Rattle.voigt_table.proofs.KeptLaws.{back}
use Rattle.voigt_table.proofs.entries.Blocks.shift.Goals as goal

pub returns-clause-value : goal.returns-clause-value
returns-clause-value c =
    let b = c.args.self in
    c.shift_of.ensures.value
    ∙ ap (λ k. shift c.args.weights (entry_at (sizes_of b) k)) (ap (entry_of b) c.component.ensures.at ∙ back b c.args.number c.requires)
