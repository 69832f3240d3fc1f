use Rattle.std.proofs.lemmas.Result.{IfOk-weaker}
use Rattle.constraint_rows.proofs.words.word_rows.Goals as goal

pub returns : goal.returns
returns g c = record {
  rows = IfOk-weaker c.rows_of_words.result _ _ (λ v h. (c.in_ok-classes.classes, c.in_ok-classes.ensures.representatives, h, c.in_ok-classes.ensures.sound))
      c.rows_of_words.ensures.rows;
}
