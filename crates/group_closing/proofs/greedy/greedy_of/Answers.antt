use Rattle.std.proofs.Common.{◌+◌, sym, subst, arith}
use Rattle.group_closing.proofs.Taking.{IsTaking, taking_past, taking_more, taking_frame, taking_greedy, taking_spans}
use Rattle.group_closing.proofs.greedy.greedy_of.Goals as goal
use Rattle.group_closing.proofs.greedy.greedy_of.Goals.{then-not-has, else-not-has}

pub take-requires-clause-frame : goal.take-requires-clause-frame
take-requires-clause-frame c =
    taking_frame c.args.elements.now c.loop-element.span.taken c.loop-element.span.found c.loop-element.span.marks
    c.loop-element.element-index c.element-item.result c.requires c.loop-element.invariant (omega arith)
    c.element-item.is

pub loop-element-preserved : goal.loop-element-preserved
loop-element-preserved c = elim c.if-not-has.branch [
  | then-not-has w ↦
      subst (λ s. IsTaking c.args.elements.now (c.loop-element.element-index + 1) s.taken s.marks s.found) (sym w.span-is)
      (taking_more c.args.elements.now c.loop-element.span.taken w.take.new.self.taken c.loop-element.span.found
      w.take.new.self.found c.loop-element.span.marks w.take.new.self.marks c.loop-element.element-index
      c.element-item.result c.has.result c.loop-element.invariant (omega arith) c.element-item.is c.has.ensures
      w.if-not-has.true w.take.ensures.taken w.take.ensures.span w.take.ensures.grows)
  | else-not-has w ↦
      subst (λ s. IsTaking c.args.elements.now (c.loop-element.element-index + 1) s.taken s.marks s.found) (sym w.span-is)
      (taking_past c.args.elements.now c.loop-element.span.taken c.loop-element.span.found c.loop-element.span.marks
      c.loop-element.element-index c.element-item.result c.has.result c.requires c.loop-element.invariant (omega arith)
      c.element-item.is c.has.ensures w.if-not-has.false)
]

pub returns-clause-taken : goal.returns-clause-taken
returns-clause-taken c =
    taking_greedy c.args.elements.now c.loop-element.span.taken c.loop-element.span.found c.loop-element.span.marks
    c.loop-element.element-index c.loop-element.invariant (omega arith)

pub returns-clause-spanned : goal.returns-clause-spanned
returns-clause-spanned c =
    taking_spans c.args.elements.now c.loop-element.span.taken c.loop-element.span.found c.loop-element.span.marks
    c.loop-element.element-index c.requires c.loop-element.invariant (omega arith)

pub returns-clause-elements : goal.returns-clause-elements
returns-clause-elements c = c.loop-element.invariant.inside
