use Rattle.std.proofs.Common.{ap, ◌∙◌}
use Rattle.group_names.proofs.FirstNamed.{parent_there, row_is}
use Rattle.group_names.proofs.oriented.parent_at.Goals as goal

pub unreachable-requires : goal.unreachable-requires
unreachable-requires c =
    parent_there c.args.place _ c.from_number.result c.requires (ap (λ r. r.parent) (row_is c.args.place c.requires _)) c.from_number.ensures c.in_default.is

pub returns : goal.returns
returns c = c.in-Some.ensures.1 ∙ ap (λ r. r.parent) (row_is c.args.place c.requires _)
