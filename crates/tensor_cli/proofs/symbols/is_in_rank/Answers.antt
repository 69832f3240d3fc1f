use Rattle.std.proofs.Common.{◌<◌}
use Rattle.tensor_defs.specs.Jahn.{rank}
use Rattle.tensor_cli.proofs.StopLaws.{known_told, spelled_told}
use Rattle.tensor_cli.proofs.symbols.is_in_rank.Goals as goal

pub returns-in-Ok-Known : goal.returns-in-Ok-Known
returns-in-Ok-Known c = λ b t. known_told c.args.line.now c.args.span b _ (rw (c.in-Ok-Known.field-0-is) at c.in-Ok-Known.ensures) t

pub returns-in-Ok-More : goal.returns-in-Ok-More
returns-in-Ok-More c = λ b t. spelled_told (λ k. 6 < rank k) c.args.line.now c.args.span b (rw (c.in-Ok-More.field-0-is) at c.in-Ok-More.ensures) t

pub returns-in-Err : goal.returns-in-Err
returns-in-Err c = λ b t. absurd (c.in-Err.ensures.none (b.jahn, t.spells))
