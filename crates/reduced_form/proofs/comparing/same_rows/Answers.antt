use Rattle.std.proofs.Common.{◌≡◌, ◌<◌, ◌≤◌, arith, length, refl, ap, sym, ◌∙◌}
use Rattle.reduced_form.proofs.FormLaws.{rows_same}
use Rattle.reduced_form.proofs.comparing.same_rows.Goals as goal

pub returns : goal.returns
returns g c =
    let one : length c.args.one.now.rows ≡ g.R.Rank.LEN = ap (λ v. length v.rows) (sym c.one.view_is) ∙ c.one.invariant.len in
    let other : length c.args.other.now.rows ≡ g.R.Rank.LEN = ap (λ v. length v.rows) (sym c.other.view_is) ∙ c.other.invariant.len in
    let end : g.R.Rank.LEN ≤ c.loop-number.number = omega (arith, c.loop-number-test.false, c.LEN-number-end.ensures) in (
      λ t. rows_same c.args.one.now.rows c.args.other.now.rows (one ∙ sym other) (λ k l.
          let before : k < c.loop-number.number = omega (arith, one, end, l) in
          c.loop-number.invariant.same k before),
      λ e. refl,
    )
