-- What a run that words ask for leaves, by its end. `before` and `now` are what the sink tells at entry and at return.
--   AreRefused      the words aren't those of a generated run
--   Summarizes      the words are those of a run, and its summary, or a front of it, was written
--   LeavesAsked     what stands after each end
--   IsUnstarted     the ends of words that aren't accepted
--   IsWhole         the ends of a run whose words are accepted and where no write failed
-- Source: this project's own.
use Rattle.std.specs.Prelude.{◌≡◌, ℕ, Bool, true, false, List, Ok, Err}
use Rattle.std.specs.declared.option.Option.{Option}
use Rattle.std.specs.declared.result.Result.{Result}
use Rattle.run_words.specs.declared.Generate.{Generate}
use Rattle.run_words.specs.Words.{IsAccepted}
use Rattle.generated_runs.specs.declared.counts.LineOutcome.{LineOutcome}
use Rattle.generated_runs.specs.declared.top.Stop.{Stop}
use Rattle.generated_runs.specs.declared.top.Stop.TheVariants.{Write}
use Rattle.generated_runs.specs.Runs.{LeavesSummary}
use Rattle.line_runs.specs.declared.outcome.Outcome.{Outcome}
use Rattle.line_runs.specs.declared.outcome.Outcome.TheVariants.{Answered, SomeRefused, Usage, WriteFault, NoMemory}

abbrev pub AreRefused : List (List ℕ) → Type 0
AreRefused words = (run : Generate) → IsAccepted words run → ⊥

abbrev pub Summarizes : (ℕ → List ℕ → LineOutcome → Type 0) → List (List ℕ) → Result Bool Stop → Option (List ℕ) →
    Option (List ℕ) → Type 0
Summarizes Becomes words end before now =
    (run : Generate) × IsAccepted words run × LeavesSummary Becomes run.count run.seed end before now

abbrev pub LeavesAsked : (ℕ → List ℕ → LineOutcome → Type 0) → List (List ℕ) → Outcome → Option (List ℕ) →
    Option (List ℕ) → Type 0
LeavesAsked Becomes words Answered before now = Summarizes Becomes words (Ok false) before now
LeavesAsked Becomes words SomeRefused before now = Summarizes Becomes words (Ok true) before now
LeavesAsked Becomes words WriteFault before now = Summarizes Becomes words (Err Write) before now
LeavesAsked Becomes words Usage before now = AreRefused words × (now ≡ before)
LeavesAsked Becomes words NoMemory before now = now ≡ before
LeavesAsked Becomes words _ before now = ⊥

abbrev pub IsUnstarted : Outcome → Type 0
IsUnstarted Usage = Unit {0}
IsUnstarted NoMemory = Unit {0}
IsUnstarted _ = ⊥

abbrev pub IsWhole : Outcome → Type 0
IsWhole Answered = Unit {0}
IsWhole SomeRefused = Unit {0}
IsWhole NoMemory = Unit {0}
IsWhole _ = ⊥
