use Rattle.std.proofs.Common.{[], arith}
use Rattle.request_lines.specs.Words.{GroupSlot}
use Rattle.request_lines.proofs.Positions.{wrong_inside, wrong_behind}
use Rattle.request_lines.proofs.words.last_group.Goals as goal

pub returns-in-Ok-2 : goal.returns-in-Ok-2
returns-in-Ok-2 c = wrong_behind c.args.line.now c.args.start c.word_end-end.result c.word_end-end.ensures GroupSlot (omega arith) (c.in-Ok-2.field-0, c.in-Ok-2.ensures)

pub returns-in-Err : goal.returns-in-Err
returns-in-Err c = wrong_inside c.args.line.now c.args.start c.word_end-end.result c.word_end-end.ensures GroupSlot [] c.in-Err.fault.place c.in-Err.ensures
