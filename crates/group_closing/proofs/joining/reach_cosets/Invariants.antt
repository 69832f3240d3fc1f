use Rattle.std.proofs.Common.{◌++◌, ◌∷◌, []}
use Rattle.group_closing.proofs.CosetClosing.{IsReachingCosets}
use Rattle.group_closing.proofs.joining.reach_cosets.Given as goal

abbrev pub invariant-loop-place : goal.invariant-loop-place
invariant-loop-place l = IsReachingCosets (l.generators ++ l.more ∷ []) l.first l.order l.place l.fn.firsts l.fn.marks l.fn.found l.firsts l.marks l.found
