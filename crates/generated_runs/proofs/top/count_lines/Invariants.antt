use Rattle.generated_runs.proofs.Made.{SoFar}
use Rattle.generated_runs.proofs.top.count_lines.Given as goal

abbrev pub invariant-loop-made : goal.invariant-loop-made
invariant-loop-made g l = SoFar g.A.Answers.becomes l.count l.seed l.made l.draws.state l.counts
