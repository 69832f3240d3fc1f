use Rattle.std.proofs.Common.{◌<◌, ◌/◌, arith}
use Rattle.answer_writers.proofs.EntryTexts.{row_text, text_at, texts_are}
use Rattle.answer_writers.proofs.texts.matrix_text.Goals as goal

pub returns : goal.returns
returns c =
    let listed : c.place.result / 2 < 64 = omega (arith, c.place.ensures.below) in
    rw (row_text _ _ _ listed) (text_at _ _ c.place.result texts_are c.place.ensures.below c.place.ensures.at)
