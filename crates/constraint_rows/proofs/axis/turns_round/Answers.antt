use Rattle.std.proofs.Common.{refl, sym, ◌∙◌}
use Rattle.constraint_rows.proofs.DiagonalLaws.{diagonal_plain, not_turns_by, turns_by}
use Rattle.constraint_rows.proofs.axis.turns_round.Goals as goal

pub plain_of-requires : goal.plain_of-requires
plain_of-requires g c = diagonal_plain c.args.op.now c.requires.diagonal

pub returns-in-Plus : goal.returns-in-Plus
returns-in-Plus g c = (
  λ e. cc,
  λ t. absurd (not_turns_by c.requires.diagonal c.plain_of.ensures g.R.Rank.LEN g.R.Rank.R c.args.c g.R.Rank.power
      c.requires.component (sym c.carry.ensures.sign ∙ c.in-Plus.is) t),
)

pub returns-in-Minus : goal.returns-in-Minus
returns-in-Minus g c = (
  λ e. turns_by c.requires.diagonal c.plain_of.ensures g.R.Rank.LEN g.R.Rank.R c.args.c g.R.Rank.power
      c.requires.component (sym c.carry.ensures.sign ∙ c.in-Minus.is),
  λ t. refl,
)
