use Rattle.std.proofs.Common.{◌≡◌, ◌*◌, ◌∙◌, ap, subst}
use Rattle.exact_frac.specs.Exact.{IsExact}
use Rattle.exact_frac.proofs.Divisors.{gcd-one, factor-1, factor-2, part-positive, parts-lowest}
use Rattle.exact_frac.proofs.Parts.{value-scale}
use Rattle.exact_frac.proofs.lowest.lowered.Goals as goal

pub from_lowest-requires-2-clause-positive : goal.from_lowest-requires-2-clause-positive
from_lowest-requires-2-clause-positive c =
    part-positive c.args.bottom c.gcd-common.result c.divided-2.result c.requires
    (ap (λ x. x * c.gcd-common.result) c.divided-2.ensures ∙ factor-2 c.args.top c.args.bottom c.gcd-common.result c.gcd-common.ensures.divisor)

pub from_lowest-requires-2-clause-lowest : goal.from_lowest-requires-2-clause-lowest
from_lowest-requires-2-clause-lowest c =
    let g = c.gcd-common.result in
    parts-lowest c.args.top c.args.bottom g c.divided.result c.divided-2.result c.requires c.gcd-common.ensures.divisor
    (ap (λ x. x * g) c.divided.ensures ∙ factor-1 c.args.top c.args.bottom g c.gcd-common.ensures.divisor)
    (ap (λ x. x * g) c.divided-2.ensures ∙ factor-2 c.args.top c.args.bottom g c.gcd-common.ensures.divisor)

pub returns : goal.returns
returns c =
    let g = c.gcd-common.result in
    let u : c.divided.result * g ≡ c.args.top = ap (λ x. x * g) c.divided.ensures ∙ factor-1 c.args.top c.args.bottom g c.gcd-common.ensures.divisor in
    let v : c.divided-2.result * g ≡ c.args.bottom = ap (λ x. x * g) c.divided-2.ensures ∙ factor-2 c.args.top c.args.bottom g c.gcd-common.ensures.divisor in
    subst (λ x. IsExact x c.from_lowest-2.result)
    (value-scale c.args.negative c.divided.result c.divided-2.result g c.args.top c.args.bottom
    (part-positive c.args.bottom g c.divided-2.result c.requires v) c.gcd-common.ensures.positive u v)
    c.from_lowest-2.ensures

pub from_lowest-requires-clause-lowest : goal.from_lowest-requires-clause-lowest
from_lowest-requires-clause-lowest c = gcd-one _
