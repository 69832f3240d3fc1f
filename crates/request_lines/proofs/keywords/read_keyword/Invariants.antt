use Rattle.text_defs.specs.declared.Format.{Format}
use Rattle.request_lines.proofs.KeywordTexts.{Tried}
use Rattle.request_lines.proofs.keywords.read_keyword.Given as goal

abbrev pub invariant-loop-place : goal.invariant-loop-place
invariant-loop-place l = (format : Format) → Tried format l.line l.place l.furthest
