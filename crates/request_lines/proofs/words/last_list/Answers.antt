use Rattle.std.proofs.Common.{[], arith}
use Rattle.request_lines.specs.Words.{ListSlot}
use Rattle.request_lines.proofs.Positions.{wrong_inside, wrong_behind}
use Rattle.request_lines.proofs.words.last_list.Goals as goal

pub returns-in-Ok-2 : goal.returns-in-Ok-2
returns-in-Ok-2 c = wrong_behind c.args.line.now c.args.start c.word_end-end.result c.word_end-end.ensures (ListSlot c.args.format) (omega arith) c.in-Ok-2.ensures

pub returns-in-Err : goal.returns-in-Err
returns-in-Err c = wrong_inside c.args.line.now c.args.start c.word_end-end.result c.word_end-end.ensures (ListSlot c.args.format) [] c.in-Err.fault.place c.in-Err.ensures
