use Rattle.std.proofs.Common.{ap, sym, ◌∙◌}
use Rattle.tensor_defs.specs.declared.Weights.{Weights}
use Rattle.tensor_defs.specs.Voigt.{shift}
use Rattle.voigt_table.specs.Blocks.{entry_at, entry_of, sizes_of}
use Rattle.voigt_table.proofs.EntryLaws.{shears_told}
use Rattle.voigt_table.proofs.entries.Blocks.shift_of.Goals as goal

pub returns-in-Shear-clause-value : goal.returns-in-Shear-clause-value
returns-in-Shear-clause-value c =
    let b = c.args.self in
    c.shears_at.ensures.value ∙ shears_told b c.args.component c.requires
    ∙ ap (λ (w : Weights). shift w (entry_at (sizes_of b) (entry_of b c.args.component))) (sym c.in-Shear.is)
