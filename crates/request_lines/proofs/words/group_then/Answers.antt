use Rattle.std.proofs.Common.{◌∷◌, arith}
use Rattle.request_lines.specs.Words.{GroupSlot}
use Rattle.request_lines.proofs.Positions.{wrong_inside, wrong_at_end}
use Rattle.request_lines.proofs.words.group_then.Goals as goal

pub returns-in-Ok-2-clause-reads : goal.returns-in-Ok-2-clause-reads
returns-in-Ok-2-clause-reads c = λ s slots. wrong_at_end c.args.line.now c.args.start c.word_end-end.result c.word_end-end.ensures GroupSlot s slots (omega arith) (c.in-Ok-2.field-0, c.in-Ok-2.ensures)

pub returns-in-Err-clause-reads : goal.returns-in-Err-clause-reads
returns-in-Err-clause-reads c = λ s slots. wrong_inside c.args.line.now c.args.start c.word_end-end.result c.word_end-end.ensures GroupSlot (s ∷ slots) c.in-Err.fault.place c.in-Err.ensures
