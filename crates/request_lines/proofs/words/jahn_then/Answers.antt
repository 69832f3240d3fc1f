use Rattle.std.proofs.Common.{◌∷◌, arith}
use Rattle.request_lines.specs.Words.{JahnSlot}
use Rattle.request_lines.proofs.Positions.{wrong_inside, wrong_at_end}
use Rattle.request_lines.proofs.words.jahn_then.Goals as goal

pub returns-in-Ok-2-clause-reads : goal.returns-in-Ok-2-clause-reads
returns-in-Ok-2-clause-reads c = λ s slots. wrong_at_end c.args.line.now c.args.start c.word_end-end.result c.word_end-end.ensures JahnSlot s slots (omega arith) (c.in-Ok-2.ensures.0, c.in-Ok-2.ensures.1)

pub returns-in-Err-clause-reads : goal.returns-in-Err-clause-reads
returns-in-Err-clause-reads c = λ s slots. wrong_inside c.args.line.now c.args.start c.word_end-end.result c.word_end-end.ensures JahnSlot (s ∷ slots) c.in-Err.fault.place c.in-Err.ensures
