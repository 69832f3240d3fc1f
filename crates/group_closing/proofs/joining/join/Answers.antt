use Rattle.std.proofs.Common.{◌∙◌, ◌++◌, ◌∷◌, [], ap, arith}
use Rattle.group_closing.proofs.CosetClosing.{cosets_none, cosets_closed, firsts_done, group_closed, head_reached}
use Rattle.group_closing.proofs.joining.join.Goals as goal

pub loop-next-init : goal.loop-next-init
loop-next-init c = (
  cosets_none c.args.generators.now c.push.new.self c.args.found.now c.args.marks.now c.args.more.now c.len-order.result c.requires.frame c.requires.group
      c.len-order.ensures
      (c.push.ensures ∙ ap (λ xs. xs ++ c.identity.result ∷ []) c.clear.ensures ∙ ap (λ g. [] ++ g ∷ []) c.identity.ensures),
  λ i d h. absurd (omega arith),
)

pub reach_cosets-requires-clause-reached : goal.reach_cosets-requires-clause-reached
reach_cosets-requires-clause-reached c =
    head_reached (c.args.generators.now ++ c.args.more.now ∷ []) c.len-order.result c.loop-next.firsts c.loop-next.found c.loop-next.marks c.loop-next.next
    c.at-first.result c.loop-next.invariant.0 (omega arith) c.at-first.ensures

pub loop-next-preserved : goal.loop-next-preserved
loop-next-preserved c = (
  c.reach_cosets.ensures.cosets,
  firsts_done (c.args.generators.now ++ c.args.more.now ∷ []) c.loop-next.next c.loop-next.firsts c.reach_cosets.new.firsts c.loop-next.marks
      c.reach_cosets.new.marks c.at-first.result c.reach_cosets.ensures.firsts (omega arith) c.at-first.ensures
      c.loop-next.invariant.1 c.reach_cosets.ensures.done,
)

pub returns : goal.returns
returns c =
    let all = c.args.generators.now ++ c.args.more.now ∷ [] in
    group_closed all c.loop-next.found c.loop-next.marks c.requires.frame
    (cosets_closed all c.loop-next.firsts c.loop-next.found c.loop-next.marks c.len-order.result c.loop-next.next
    c.requires.frame c.loop-next.invariant.0 (omega arith) c.loop-next.invariant.1)
