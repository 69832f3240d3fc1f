use Rattle.constraint_rows.proofs.ClassLaws.{classes_told}
use Rattle.constraint_rows.proofs.MakingLaws.{plain_table_made, table_settled}
use Rattle.constraint_rows.proofs.classing.plain_classes.Goals as goal

pub invariant_of-result : goal.invariant_of-result
invariant_of-result g c =
    table_settled (plain_table_made g.R.Rank.power c.generators.ensures.elements c.generators.ensures.spanned c.flags.ensures
    c.in_ok-ops.ensures c.exchanges.ensures.exchanges c.exchanges.ensures.within c.deref.ensures.value c.in_ok-table.ensures)

pub returns-clause-table : goal.returns-clause-table
returns-clause-table g c =
    plain_table_made g.R.Rank.power c.generators.ensures.elements c.generators.ensures.spanned c.flags.ensures
    c.in_ok-ops.ensures c.exchanges.ensures.exchanges c.exchanges.ensures.within c.deref.ensures.value c.in_ok-table.ensures

pub returns-clause-classes : goal.returns-clause-classes
returns-clause-classes g c =
    classes_told g.R.Rank.LEN g.R.Rank.R c.args.group.now c.args.shape.now c.args.order.now c.in_ok-table.table.items g.R.Rank.power
    c.requires (plain_table_made g.R.Rank.power c.generators.ensures.elements c.generators.ensures.spanned c.flags.ensures
    c.in_ok-ops.ensures c.exchanges.ensures.exchanges c.exchanges.ensures.within c.deref.ensures.value c.in_ok-table.ensures)
