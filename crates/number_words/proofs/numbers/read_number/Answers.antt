use Rattle.number_words.proofs.Languages.{minus_faulty, plus_read}
use Rattle.number_words.proofs.numbers.read_number.Goals as goal

pub returns-in-Err : goal.returns-in-Err
returns-in-Err c =
    minus_faulty c.args.word.now c.in-Err.fault.place c.behind.result.place (rw c.if-has_at.true at c.has_at.ensures) c.in-Err.ensures
    c.behind.ensures

pub returns-else-has_at : goal.returns-else-has_at
returns-else-has_at c =
    plus_read c.args.word.now c.read_signed-else-has_at.result (rw c.if-has_at.false at c.has_at.ensures) c.read_signed-else-has_at.ensures
