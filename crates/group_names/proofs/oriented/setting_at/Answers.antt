use Rattle.std.proofs.Common.{ap}
use Rattle.group_names.proofs.FirstNamed.{row_is}
use Rattle.group_names.proofs.oriented.setting_at.Goals as goal

pub returns : goal.returns
returns c = ap (λ r. r.setting) (row_is c.args.place c.requires _)
