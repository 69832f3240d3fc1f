use Rattle.list_laws.proofs.Kit.{◌≡◌, ℕ, ◌+◌, ◌<◌, List, get_or, rules, sym, ◌∙◌, subst, get_or_default}
use Rattle.tensor_defs.specs.Operation.{Operation, identity}
use Rattle.tensor_rank.specs.Flags.{marks_of}
use Rattle.constraint_rows.specs.declared.ops.PlainOp.{PlainOp}
use Rattle.constraint_rows.specs.PlainOps.{StandsFor, op_at}
use Rattle.constraint_rows.proofs.MakingLaws.{stand_more}
use Rattle.constraint_rows.proofs.classing.plain_ops.Goals as goal

pub loop-place-preserved : goal.loop-place-preserved
loop-place-preserved c = record {
  len = search rules;
  each =
      let read : c.index-operations-place.result ≡ get_or c.args.operations.now c.loop-place.place identity =
      c.index-operations-place.is ∙ get_or_default c.args.operations.now c.loop-place.place c.index-operations-place.result identity c.loop-place-test.true in
      let last : StandsFor (marks_of c.args.flags) (get_or c.args.operations.now c.loop-place.place identity) c.plain_of.result =
      subst (λ (g : Operation). StandsFor (marks_of c.args.flags) g c.plain_of.result) read c.plain_of.ensures in
      subst (λ (ps : List PlainOp). (k : ℕ) → k < c.loop-place.place + 1 → StandsFor (marks_of c.args.flags) (get_or c.args.operations.now k identity) (op_at ps k))
      (sym c.in_ok-push.ensures.items)
      (stand_more (marks_of c.args.flags) c.args.operations.now c.loop-place.ops.items c.plain_of.result c.loop-place.place
      c.loop-place.invariant.len c.loop-place.invariant.each last);
}
