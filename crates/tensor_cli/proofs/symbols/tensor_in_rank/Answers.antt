use Rattle.std.proofs.Common.{◌<◌, ◌≤◌}
use Rattle.tensor_defs.specs.Jahn.{rank}
use Rattle.tensor_cli.proofs.StopLaws.{spelled_told, tensor_told}
use Rattle.tensor_cli.proofs.symbols.tensor_in_rank.Goals as goal

pub returns-in-Ok-clause-jahn : goal.returns-in-Ok-clause-jahn
returns-in-Ok-clause-jahn c = λ b t. tensor_told c.args.line.now c.args.span c.in-Ok.jahn b c.in-Ok.ensures t

pub returns-in-Err-Rank-clause-refused : goal.returns-in-Err-Rank-clause-refused
returns-in-Err-Rank-clause-refused c = (
  c.at.ensures,
  λ b t. spelled_told (λ k. 6 < rank k) c.args.line.now c.args.span b (rw (c.in-Err-Rank.field-0-is) at c.in-Err-Rank.ensures) t,
)

pub returns-in-Err-Syntax-clause-refused : goal.returns-in-Err-Syntax-clause-refused
returns-in-Err-Syntax-clause-refused c = λ b t. absurd ((rw (c.in-Err-Syntax.field-0-is) at c.in-Err-Syntax.ensures).none (b.jahn, t.spells))

pub returns-in-Err-NoMemory-clause-refused : goal.returns-in-Err-NoMemory-clause-refused
returns-in-Err-NoMemory-clause-refused c = λ b t.
    spelled_told (λ k. rank k ≤ 6) c.args.line.now c.args.span b (rw (c.in-Err-NoMemory.field-0-is) at c.in-Err-NoMemory.ensures) t
