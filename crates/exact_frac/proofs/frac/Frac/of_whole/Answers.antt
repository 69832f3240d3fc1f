use Rattle.std.proofs.Common.{◌<◌, ◌∙◌, ap, sym, subst, lit<}
use Rattle.std.specs.Prelude.{unsigned_abs}
use Rattle.number_laws.proofs.Fractions.{over-whole}
use Rattle.tensor_defs.specs.Number.{limit, value_of}
use Rattle.exact_frac.specs.Held.{IsHeld}
use Rattle.exact_frac.proofs.Divisors.{gcd-one}
use Rattle.exact_frac.proofs.Wide.{narrow}
use Rattle.exact_frac.proofs.frac.Frac.of_whole.Goals as goal

pub of_parts-requires : goal.of_parts-requires
of_parts-requires c =
    record {
      terms = record { positive = lit< tt; lowest = gcd-one _ };
      small_num = subst (λ n. unsigned_abs n < limit) (sym (narrow c.args.n c.requires)) c.requires;
      small_den = lit< tt;
    }

pub returns-clause-value : goal.returns-clause-value
returns-clause-value c =
    let e = c.of_parts.ensures ∙ (λ i. record { num = narrow c.args.n c.requires i; den = 1 }) in
    record {
      same = sym (ap value_of e ∙ over-whole c.args.n);
      held = subst IsHeld (sym e) (record {
        terms = record { positive = lit< tt; lowest = gcd-one _ };
        small_num = c.requires;
        small_den = lit< tt;
      });
    }
