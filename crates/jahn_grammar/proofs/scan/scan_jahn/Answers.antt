use Rattle.std.proofs.Common.{arith}
use Rattle.jahn_grammar.proofs.Scans.{empty_wrong, marks_spelled, one_wrong, one_spelled}
use Rattle.jahn_grammar.proofs.scan.scan_jahn.Goals as goal

pub returns-then-front-eq0 : goal.returns-then-front-eq0
returns-then-front-eq0 c = empty_wrong c.args.word.now (omega arith)

pub returns-else-front-eq0 : goal.returns-else-front-eq0
returns-else-front-eq0 c = let h = marks_spelled c.args.word.now c.marks_len-front.result c.marks_len-front.ensures (omega arith) c.if-front-eq0.false in (h.0, h.1, (h.2, h.3))

pub returns-then-front-word-2 : goal.returns-then-front-word-2
returns-then-front-word-2 c = let h = one_spelled c.args.word.now c.marks_len-front.result c.marks_len-front.ensures (omega arith) c.if-word-front-eq49.true c.if-front-word-2.true in (h.0, h.1, (h.2, h.3))

pub returns-else-front-word-2 : goal.returns-else-front-word-2
returns-else-front-word-2 c = one_wrong c.args.word.now c.marks_len-front.result c.marks_len-front.ensures (omega arith) c.if-word-front-eq49.true (omega (arith, c.if-front-word-2.false))
