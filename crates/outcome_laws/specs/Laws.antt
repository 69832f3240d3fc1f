-- Laws of outcomes, as the contracts of src/ cite them.
--   OneOutcome      a line has at most one outcome
--   OneSummary      the lines made from a seed have at most one list of outcomes, and so one summary
use Rattle.std.specs.Prelude.{◌≡◌, ℕ, List}
use Rattle.generated_runs.specs.Runs.{AreMade}
use Rattle.generated_runs.specs.Summary.{summary_text}
use Rattle.generated_runs.specs.Told.{Becomes}
use Rattle.generated_runs.specs.declared.counts.LineOutcome.{LineOutcome}

abbrev pub OneOutcome : Type 0
OneOutcome =
    (number : ℕ) (line : List ℕ) (o p : LineOutcome) → Becomes number line o → Becomes number line p → o ≡ p

abbrev pub OneSummary : Type 0
OneSummary =
    (count seed : ℕ) (os ps : List LineOutcome) → AreMade Becomes count seed os → AreMade Becomes count seed ps →
    summary_text count os ≡ summary_text count ps
