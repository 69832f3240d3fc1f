use Rattle.std.proofs.Common.{refl, sym, ◌∙◌, subst, arith}
use Rattle.sign_moves.specs.Prelude.{step_at, IsSpread}
use Rattle.sign_moves.proofs.DigitLaws.{spread_none}
use Rattle.sign_moves.proofs.digits.spread.Goals as goal

pub loop-j-init : goal.loop-j-init
loop-j-init c = record {
  spread = subst (IsSpread (step_at c.args.row.now) 0 c.args.part) (sym c.clear.ensures.items) (spread_none (step_at c.args.row.now) c.args.part);
  long = c.clear.ensures.len;
  capacity = c.clear.ensures.capacity;
}

pub loop-j-preserved : goal.loop-j-preserved
loop-j-preserved c = record {
  spread = c.push_longer.ensures.spread (step_at c.args.row.now) c.loop-j.j refl c.loop-j.invariant.spread;
  long = omega (arith, c.push_longer.ensures.len, c.loop-j.invariant.long);
  capacity = c.push_longer.ensures.capacity ∙ c.loop-j.invariant.capacity;
}
