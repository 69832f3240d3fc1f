use Rattle.std.proofs.Common.{arith}
use Rattle.request_lines.proofs.WeightTexts.{weights_short, weights_other}
use Rattle.request_lines.proofs.words.read_weights.Goals as goal

pub returns-then-word-lt1 : goal.returns-then-word-lt1
returns-then-word-lt1 c = weights_short c.args.word.now (omega arith)

pub returns-then-word-ne115 : goal.returns-then-word-ne115
returns-then-word-ne115 c = weights_other c.args.word.now (omega arith) c.if-word-ne99.true c.if-word-ne115.true
