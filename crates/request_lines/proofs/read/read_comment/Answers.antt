use Rattle.std.proofs.Common.{arith}
use Rattle.request_lines.proofs.Comments.{comment_read, comment_wrong}
use Rattle.request_lines.proofs.read.read_comment.Goals as goal

pub returns-then-line-at-eq10 : goal.returns-then-line-at-eq10
returns-then-line-at-eq10 c = comment_wrong c.args.line.now c.loop-at.at c.requires c.loop-at.invariant.1 c.loop-at.invariant.0 c.loop-at-test.true c.if-line-at-eq10.true

pub returns : goal.returns
returns c = comment_read c.args.line.now c.loop-at.at c.requires c.loop-at.invariant.1 (omega (arith, c.loop-at-test.false))
