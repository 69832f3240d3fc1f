-- What a generated run leaves. `before` and `now` are what the sink tells at entry and at return.
--   AreMade         the outcomes are those of the lines made from a seed, the first of number 1
--   LeavesSummary   the summary was written, or a front of it, or nothing
-- Source: this project's own.
use Rattle.std.specs.Prelude.{◌≡◌, ℕ, Bool, List, Ok, Err}
use Rattle.std.specs.declared.option.Option.{Option}
use Rattle.std.specs.declared.result.Result.{Result}
use Rattle.tensor_ports.specs.Bytes.{Grows, GrowsInPart}
use Rattle.generated_runs.specs.Requests.{lines_made}
use Rattle.generated_runs.specs.Outcomes.{AreOutcomes, has_refused}
use Rattle.generated_runs.specs.Summary.{summary_text}
use Rattle.generated_runs.specs.declared.counts.LineOutcome.{LineOutcome}
use Rattle.generated_runs.specs.declared.top.Stop.{Stop}
use Rattle.generated_runs.specs.declared.top.Stop.TheVariants.{Memory, Write}

abbrev pub AreMade : (ℕ → List ℕ → LineOutcome → Type 0) → ℕ → ℕ → List LineOutcome → Type 0
AreMade Becomes count seed os = AreOutcomes Becomes 1 (lines_made count seed) os

-- at the end it is told whether a line was refused
abbrev pub LeavesSummary : (ℕ → List ℕ → LineOutcome → Type 0) → ℕ → ℕ → Result Bool Stop → Option (List ℕ) →
    Option (List ℕ) → Type 0
LeavesSummary Becomes count seed (Ok refused) before now =
    (os : List LineOutcome) × AreMade Becomes count seed os × (refused ≡ has_refused os)
    × Grows before now (summary_text count os)
LeavesSummary Becomes count seed (Err Write) before now =
    (os : List LineOutcome) × AreMade Becomes count seed os × GrowsInPart before now (summary_text count os)
LeavesSummary Becomes count seed (Err Memory) before now = now ≡ before
