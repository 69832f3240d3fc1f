use Rattle.run_words.proofs.run_of.Goals as goal

pub returns-in-None : goal.returns-in-None
returns-in-None c = λ run at. c.in-None.ensures run.count at.count_is

pub returns-in-None-option_number : goal.returns-in-None-option_number
returns-in-None-option_number c = λ run at. c.in-None-option_number.ensures run.seed at.seed_is
