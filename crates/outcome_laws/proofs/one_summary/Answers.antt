use Rattle.std.proofs.Common.{ap}
use Rattle.generated_runs.specs.Requests.{lines_made}
use Rattle.generated_runs.specs.Summary.{summary_text}
use Rattle.outcome_laws.proofs.Unique.{one_outcomes}
use Rattle.outcome_laws.proofs.one_summary.Goals as goal

pub returns : goal.returns
returns c = λ count seed os ps a b. ap (summary_text count) (one_outcomes 1 (lines_made count seed) os ps a b)
