use Rattle.std.proofs.Common.{◌≡◌, ◌∙◌, ap, arith}
use Rattle.request_lines.specs.Keywords.{keyword_text, keyword_at}
use Rattle.request_lines.proofs.KeywordTexts.{nothing_tried, tried_text, all_tried}
use Rattle.request_lines.proofs.keywords.read_keyword.Goals as goal

pub loop-place-init : goal.loop-place-init
loop-place-init c = λ format. nothing_tried format c.args.line.now

pub loop-place-preserved : goal.loop-place-preserved
loop-place-preserved c =
    let f = c.common_front-same.ensures in
    let is : c.text_of-text.result.now ≡ keyword_text (keyword_at c.loop-place.place) = c.text_of-text.ensures ∙ ap keyword_text c.keyword_at-keyword.ensures in
    λ format. rw c.max-furthest.ensures (tried_text format c.args.line.now c.text_of-text.result.now c.loop-place.furthest c.loop-place.place c.common_front-same.result (c.loop-place.invariant format) is f.within_a c.if-same-text.false f.within_b f.same f.differ)

pub returns-clause-reads : goal.returns-clause-reads
returns-clause-reads c =
    let e : c.loop-place.place ≡ 7 = omega arith in
    λ format. all_tried format c.args.line.now c.loop-place.furthest (rw e at (c.loop-place.invariant format))
