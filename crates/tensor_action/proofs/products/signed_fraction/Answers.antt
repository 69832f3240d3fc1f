use Rattle.std.proofs.Common.{◌≡◌, ◌∙◌, ℕ, ap, subst, arith}
use Rattle.tensor_defs.specs.Number.{num_zero, over}
use Rattle.sign_moves.specs.Signs.{signed}
use lib.IntN.{pos}
use mir.Syntax.{w64}
use mir.Val.{to_z, of_z}
use Rattle.exact_frac.specs.Exact.{IsNew}
use Rattle.exact_frac.proofs.Wide.{narrow}
use Rattle.tensor_action.proofs.FactorLaws.{new_is_ok, signed-nothing}
use Rattle.tensor_action.proofs.products.signed_fraction.Goals as goal

pub unwrap-size-requires : goal.unwrap-size-requires
unwrap-size-requires c =
    let top = ap (λ z. to_z w64 (of_z w64 z)) c.from.ensures ∙ narrow (pos c.args.top) (omega arith) in
    let below = ap (λ z. to_z w64 (of_z w64 z)) c.from-2.ensures ∙ narrow (pos c.args.below) (omega arith) in
    new_is_ok c.args.top c.args.below c.new.result c.requires c.ranges.top.fits c.ranges.below.fits
    (subst (λ p. IsNew p (pos c.args.below) c.new.result) top (subst (λ d. IsNew (to_z w64 (of_z w64 c.from.result)) d c.new.result) below c.new.ensures))

pub returns-then-top-eq0 : goal.returns-then-top-eq0
returns-then-top-eq0 c =
    let none : signed c.args.sign (over (pos c.args.top) c.args.below) ≡ num_zero =
    ap (λ (n : ℕ). signed c.args.sign (over (pos n) c.args.below)) c.if-top-eq0.true ∙ signed-nothing c.args.sign c.args.below in
    record { same = none ∙ c.zero.ensures.value.same; held = c.zero.ensures.value.held }
