-- Laws of outcomes. The lines are those of an input of format 1.
--   RefusedOutcomes    some outcome is a refusal exactly where some line is refused
--   AnsweredLines   what answers a line of a kind is the answer of the line
-- Source: this project's own.
use Rattle.std.specs.Prelude.{◌≡◌, ◌↔◌, ℕ, true, List, ◌∷◌}
use Rattle.text_defs.specs.declared.Format.TheVariants.{One}
use Rattle.text_defs.specs.Prelude.{IsAnswer, HasRefused}
use Rattle.generated_runs.specs.Outcomes.{AreOutcomes, has_refused}
use Rattle.generated_runs.specs.Told.{Becomes, IsAnsweredSo}
use Rattle.generated_runs.specs.declared.draws.Kind.{Kind}
use Rattle.generated_runs.specs.declared.counts.LineOutcome.{LineOutcome}

abbrev pub RefusedOutcomes : Type 0
RefusedOutcomes =
    (number : ℕ) (lines : List (List ℕ)) (os : List LineOutcome) → AreOutcomes Becomes number lines os →
    ((has_refused os ≡ true) ↔ HasRefused One number lines)

abbrev pub AnsweredLines : Type 0
AnsweredLines =
    (number b : ℕ) (bs bytes : List ℕ) (kind : Kind) (free : ℕ) → IsAnsweredSo number (b ∷ bs) bytes kind free →
    IsAnswer One number (b ∷ bs) bytes
