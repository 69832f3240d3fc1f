use Rattle.list_laws.proofs.Kit.{arith, ap, length, length-map}
use Rattle.group_symbol.proofs.ParentTexts.{few_count}
use Rattle.group_symbol.proofs.parents.Parent.operator_list.Goals as goal

pub returns-clause-few : goal.returns-clause-few
returns-clause-few c =
    omega (arith, few_count c.args.self.now, simp length-map at (ap length c.row.ensures.operators))
