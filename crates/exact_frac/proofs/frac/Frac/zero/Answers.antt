use Rattle.std.proofs.Common.{sym, ◌∙◌, ap, subst, lit<}
use Rattle.number_laws.proofs.Fractions.{over-whole}
use lib.IntN.{pos}
use Rattle.tensor_defs.specs.Number.{value_of}
use Rattle.exact_frac.specs.Held.{IsHeld}
use Rattle.exact_frac.proofs.Divisors.{gcd-one}
use Rattle.exact_frac.proofs.frac.Frac.zero.Goals as goal

pub returns-clause-value : goal.returns-clause-value
returns-clause-value c =
    record {
      same = sym (ap value_of c.of_parts.ensures ∙ over-whole (pos 0));
      held = subst IsHeld (sym c.of_parts.ensures) (record {
        terms = record { positive = lit< tt; lowest = gcd-one 0 };
        small_num = lit< tt;
        small_den = lit< tt;
      });
    }
