use Rattle.std.proofs.Common.{arith}
use Rattle.list_laws.proofs.Tests.{power_four}
use Rattle.group_names.proofs.patterns.Goals as goal

pub returns-clause-few : goal.returns-clause-few
returns-clause-few c = omega (arith, power_four c.args.operators c.requires)
