use Rattle.std.proofs.Common.{ap}
use Rattle.group_names.proofs.FirstNamed.{row_is}
use Rattle.group_names.proofs.oriented.matrices_at.Goals as goal

pub returns : goal.returns
returns c = ap (λ r. r.matrices) (row_is c.args.place c.requires _)
