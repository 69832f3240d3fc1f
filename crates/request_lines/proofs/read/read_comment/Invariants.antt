use Rattle.std.proofs.Common.{◌≤◌, ◌-◌, length}
use Rattle.request_lines.proofs.Comments.{NoFeeds}
use Rattle.request_lines.proofs.read.read_comment.Given as goal

abbrev pub invariant-loop-at : goal.invariant-loop-at
invariant-loop-at l = (1 ≤ l.at) × NoFeeds l.line l.at

abbrev pub decreases-loop-at : goal.decreases-loop-at
decreases-loop-at l = length l.line - l.at
