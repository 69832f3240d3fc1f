use Rattle.std.proofs.Common.{◌≡◌, ◌++◌, drop}
use Rattle.generated_runs.specs.Requests.{after_words, words_from}
use Rattle.generated_runs.proofs.draws.Draws.make_line.Given as goal

abbrev pub invariant-loop-choice : goal.invariant-loop-choice
invariant-loop-choice l = record {
  line : l.line.items ++ words_from (drop l.choice-index l.choice-items) l.self.state
      ≡ l.initial.line.items ++ words_from l.choice-items l.initial.self.state;
  state : after_words (drop l.choice-index l.choice-items) l.self.state ≡ after_words l.choice-items l.initial.self.state;
}
