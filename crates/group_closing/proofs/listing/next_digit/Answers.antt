use Rattle.list_laws.proofs.Kit.{◌≡◌, ◌+◌, ◌-◌, sym, ◌∙◌, ap, arith, bit_at, bit_at-zero}
use Rattle.list_laws.proofs.Digits.{shifted_digit, next_told}
use Rattle.group_closing.proofs.listing.next_digit.Goals as goal

pub returns-then-left-eq0-clause-least : goal.returns-then-left-eq0-clause-least
returns-then-left-eq0-clause-least c = λ k f h.
    let e : c.args.from + (k - c.args.from) ≡ k = omega arith in
    ap (bit_at c.args.digits) (sym e) ∙ sym (shifted_digit c.args.digits c.args.from (k - c.args.from))
    ∙ ap (λ x. bit_at x (k - c.args.from)) c.if-left-eq0.true ∙ bit_at-zero (k - c.args.from)

pub returns-clause-within : goal.returns-clause-within
returns-clause-within c =
    let t = (next_told c.args.digits c.args.from c.ranges.digits.fits c.if-left-eq0.false).0 in
    omega (arith, t)

pub returns-clause-one : goal.returns-clause-one
returns-clause-one c = λ h. (next_told c.args.digits c.args.from c.ranges.digits.fits c.if-left-eq0.false).1

pub returns-clause-least : goal.returns-clause-least
returns-clause-least c = (next_told c.args.digits c.args.from c.ranges.digits.fits c.if-left-eq0.false).2
