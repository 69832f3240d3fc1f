use Rattle.std.proofs.Common.{◌≡◌, ◌^◌, ◌<◌, ℕ, List, get_or, sym, ◌∙◌, subst}
use Rattle.tensor_defs.specs.Voigt.{rank_of_blocks}
use Rattle.voigt_table.specs.Blocks.{component_at, sizes_of}
use Rattle.voigt_table.proofs.EntryLaws.{component_told}
use Rattle.voigt_table.proofs.KeptLaws.{listed_component, small_component}
use Rattle.voigt_table.proofs.entries.Blocks.component.Goals as goal

pub returns-clause-at : goal.returns-clause-at
returns-clause-at c =
    let k = c.args.number in
    subst (λ (xs : List ℕ). get_or xs k 0 ≡ component_at c.args.self k) (sym c.components.ensures) (listed_component c.args.self k 0 c.requires)

pub returns-clause-value : goal.returns-clause-value
returns-clause-value c = returns-clause-at c ∙ component_told c.args.self c.args.number c.requires

pub returns-clause-below : goal.returns-clause-below
returns-clause-below c =
    subst (λ (x : ℕ). x < 3 ^ rank_of_blocks (sizes_of c.args.self)) (sym (returns-clause-at c)) (small_component c.args.self c.args.number c.requires)
