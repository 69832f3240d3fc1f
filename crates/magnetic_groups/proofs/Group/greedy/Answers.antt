use Rattle.std.proofs.Common.{◌∙◌, subst, List}
use Rattle.std.specs.Prelude.{Contains, ◌↔◌}
use Rattle.tensor_defs.specs.Operation.{Operation}
use Rattle.magnetic_groups.specs.Sets.{Spanned}
use Rattle.magnetic_groups.proofs.Group.greedy.Goals as goal

pub returns-clause-spanned : goal.returns-clause-spanned
returns-clause-spanned c =
    subst (λ (xs : List Operation). (k : Operation) → Contains xs k ↔ Spanned c.greedy_of.result k)
    (c.deref.ensures.value ∙ c.self.view_is) c.greedy_of.ensures.spanned
