use Rattle.tensor_cli.proofs.kinds.MarksOfAnswersTensor.answer.Goals as goal

pub returns-in-Err-TooLarge-clause-large : goal.returns-in-Err-TooLarge-clause-large
returns-in-Err-TooLarge-clause-large c = λ is. c.in-Err-TooLarge.ensures.grows c.in-Err-TooLarge.field-0-is
