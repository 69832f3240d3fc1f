use Rattle.std.proofs.Common.{refl, sym, append-nil}
use Rattle.tensor_defs.specs.Symbols.{generators}
use Rattle.group_symbol.proofs.generators.generators_of.Goals as goal

pub returns-then-tree : goal.returns-then-tree
unfolding generators
returns-then-tree c =
    rw (c.push.ensures, c.operations_of-found.ensures.value, c.operator_list.ensures.value, c.reversal.ensures, ← c.tree.view_is, c.if-tree.true) refl

pub returns-else-tree : goal.returns-else-tree
unfolding generators
returns-else-tree c =
    rw (c.operations_of-found.ensures.value, c.operator_list.ensures.value, ← c.tree.view_is, c.if-tree.false) (sym (append-nil _))
