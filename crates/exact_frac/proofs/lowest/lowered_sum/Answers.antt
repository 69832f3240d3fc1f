use Rattle.list_laws.proofs.Kit.{◌≡◌, ◌*◌, ◌/◌, ◌∙◌, ap, sym, subst, IsGcd, to_z-of_z}
use Rattle.std.specs.Prelude.{unsigned_abs}
use lib.IntN.{pos}
use lib.Signed.{lt_z}
use mir.Syntax.{w128}
use mir.Val.{to_z, of_z}
use Rattle.tensor_defs.specs.Prelude.{over, positive_mul}
use Rattle.exact_frac.specs.Held.{signed, is_negative}
use Rattle.exact_frac.specs.Exact.{IsExact}
use Rattle.exact_frac.proofs.Divisors.{factor-2, part-positive, sum-parts, sum-top, sum-bottom}
use Rattle.exact_frac.proofs.Signs.{below-zero, signed-is}
use Rattle.exact_frac.proofs.Parts.{value-scale}
use Rattle.exact_frac.proofs.lowest.lowered_sum.Goals as goal

pub from_lowest-requires-clause-positive : goal.from_lowest-requires-clause-positive
from_lowest-requires-clause-positive c =
    let g = c.gcd-shared.result in
    positive_mul c.requires.positive (part-positive c.args.common g (c.args.common / g) c.requires.positive_common
    (factor-2 c.remainder.result c.args.common g c.gcd-shared.ensures.divisor))

pub from_lowest-requires-clause-lowest : goal.from_lowest-requires-clause-lowest
from_lowest-requires-clause-lowest c =
    let g = c.gcd-shared.result in
    let n = c.unsigned_abs-size.result in
    let t : to_z w128 (of_z w128 c.args.sum) ≡ c.args.sum = to_z-of_z w128 c.args.sum c.ranges.sum in
    let s : n ≡ unsigned_abs c.args.sum = c.unsigned_abs-size.ensures.value ∙ ap unsigned_abs t in
    sum-parts n c.args.rest c.args.common g c.remainder.result c.divided.result c.requires.positive c.requires.positive_common
    (subst (λ x. IsGcd x c.args.rest 1) (sym s) c.requires.apart) c.remainder.ensures c.gcd-shared.ensures.divisor c.divided.ensures

pub returns : goal.returns
returns c =
    let g = c.gcd-shared.result in
    let n = c.unsigned_abs-size.result in
    let t : to_z w128 (of_z w128 c.args.sum) ≡ c.args.sum = to_z-of_z w128 c.args.sum c.ranges.sum in
    let s : n ≡ unsigned_abs c.args.sum = c.unsigned_abs-size.ensures.value ∙ ap unsigned_abs t in
    subst (λ x. IsExact x c.from_lowest.result)
    ((λ i. over (signed ((ap (λ z. lt_z z (pos 0)) t ∙ below-zero c.args.sum) i) c.divided.result) (c.args.rest * (c.args.common / g)))
    ∙ value-scale (is_negative c.args.sum) c.divided.result (c.args.rest * (c.args.common / g)) g n (c.args.rest * c.args.common)
    (positive_mul c.requires.positive (part-positive c.args.common g (c.args.common / g) c.requires.positive_common
    (factor-2 c.remainder.result c.args.common g c.gcd-shared.ensures.divisor))) c.gcd-shared.ensures.positive
    (sum-top n c.args.rest c.args.common g c.remainder.result c.divided.result c.requires.positive_common (subst (λ x. IsGcd x c.args.rest 1) (sym s) c.requires.apart) c.remainder.ensures c.gcd-shared.ensures.divisor c.divided.ensures)
    (sum-bottom c.args.rest c.args.common g c.remainder.result c.gcd-shared.ensures.divisor)
    ∙ (λ i. over (signed (is_negative c.args.sum) (s i)) (c.args.rest * c.args.common))
    ∙ ap (λ z. over z (c.args.rest * c.args.common)) (signed-is c.args.sum))
    c.from_lowest.ensures
