use Rattle.std.proofs.Common.{◌<◌, ◌-◌, refl, arith}
use Rattle.tensor_defs.specs.Symbols.{parent_text, parent_operators}
use Rattle.group_symbol.proofs.TableRows.{row_text, row_operators}
use Rattle.group_symbol.proofs.parents.Parent.row.Goals as goal

pub returns-clause-text : goal.returns-clause-text
unfolding parent_text
returns-clause-text c =
    let listed : c.self.inside.number - 1 < 42 = omega (arith, c.self.invariant) in
    rw (← c.self.view_is, row_text) refl

pub returns-clause-operators : goal.returns-clause-operators
unfolding parent_operators
returns-clause-operators c =
    let listed : c.self.inside.number - 1 < 42 = omega (arith, c.self.invariant) in
    rw (← c.self.view_is, row_operators) refl
