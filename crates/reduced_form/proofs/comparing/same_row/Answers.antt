use Rattle.std.proofs.Common.{◌≡◌, ◌<◌, ◌≤◌, arith, rules, length, refl}
use Rattle.reduced_form.proofs.FormLaws.{terms_same}
use Rattle.reduced_form.proofs.comparing.same_row.Goals as goal

pub returns : goal.returns
returns c =
    let long : length c.args.one.now ≡ length c.args.other.now = search rules in
    let end : length c.args.one.now ≤ c.loop-place.place = search rules in (
      λ t. terms_same c.args.one.now c.args.other.now long (λ k d l.
          let before : k < c.loop-place.place = omega (arith, end, l) in
          c.loop-place.invariant.same k d before),
      λ e. refl,
    )
