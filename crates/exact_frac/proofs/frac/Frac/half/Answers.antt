use Rattle.std.proofs.Common.{lit<}
use Rattle.exact_frac.proofs.Divisors.{gcd-halves}
use Rattle.exact_frac.proofs.frac.Frac.half.Goals as goal

pub of_parts-requires : goal.of_parts-requires
of_parts-requires c = record {
  terms = record { positive = lit< tt; lowest = gcd-halves };
  small_num = lit< tt;
  small_den = lit< tt;
}
