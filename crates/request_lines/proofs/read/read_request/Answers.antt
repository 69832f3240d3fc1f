use Rattle.request_lines.proofs.Comments.{worded_read}
use Rattle.request_lines.proofs.read.read_request.Goals as goal

pub returns-else-is_commented : goal.returns-else-is_commented
returns-else-is_commented c =
    worded_read c.args.format c.args.line.now c.read_worded.result c.if-is_commented.ensures c.read_worded.ensures
