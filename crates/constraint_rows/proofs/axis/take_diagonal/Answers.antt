use Rattle.std.proofs.Common.{◌≡◌, ◌+◌, ◌∙◌, true, false, subst, sym}
use Rattle.tensor_defs.specs.Prelude.{identity}
use Rattle.tensor_rank.specs.Flags.{marks_of}
use Rattle.constraint_rows.specs.Marking.{AreDiagonals}
use Rattle.constraint_rows.proofs.DiagonalLaws.{diagonal_plain, diagonals_more, diagonals_skip}
use Rattle.constraint_rows.proofs.axis.take_diagonal.Goals as goal

pub plain_of-requires : goal.plain_of-requires
plain_of-requires c = diagonal_plain c.at-op.result (c.is_diagonal.ensures.0 c.if-not-is_diagonal.false)

pub returns-then-not-is_diagonal : goal.returns-then-not-is_diagonal
returns-then-not-is_diagonal c =
    diagonals_skip (marks_of c.args.flags) c.args.group.now c.args.place c.args.ops.now.items c.at-op.result (c.at-op.ensures.reads identity)
    (λ d. let clash : true ≡ false = sym (c.is_diagonal.ensures.1 d) ∙ c.if-not-is_diagonal.true in cc) c.requires.ops

pub returns : goal.returns
returns c =
    subst (AreDiagonals (marks_of c.args.flags) c.args.group.now (c.args.place + 1)) (sym c.in_ok-push.ensures.items)
    (diagonals_more (marks_of c.args.flags) c.args.group.now c.args.place c.args.ops.now.items c.at-op.result c.plain_of.result (c.at-op.ensures.reads identity)
    c.at-op.ensures.element (c.is_diagonal.ensures.0 c.if-not-is_diagonal.false) c.plain_of.ensures c.requires.ops)
