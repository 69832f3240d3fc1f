use Rattle.std.proofs.Common.{◌<◌, ◌≤◌, arith, rules, length, ap, ◌∙◌, refl}
use Rattle.std.specs.Prelude.{◌++◌}
use Rattle.form_lines.proofs.TextLaws.{sum_done, sum_grown}
use Rattle.form_lines.proofs.writing.write_sum.Goals as goal

pub loop-place-preserved : goal.loop-place-preserved
loop-place-preserved g c = record {
  items =
      let inside : c.loop-place.place < length c.args.row.now = search rules in
      sum_grown g.R.Rank.R c.args.form.now c.args.row.now c.loop-place.place c.index-row-place.result c.args.out.now.items
      _ c.loop-place.out.items _ inside c.index-row-place.is refl c.loop-place.invariant.items c.in_ok-write_term_of.ensures.ok;
  capacity = omega (arith, c.loop-place.invariant.capacity, c.in_ok-write_term_of.ensures.capacity);
}

pub returns-clause-ok : goal.returns-clause-ok
returns-clause-ok g c =
    let end : length c.args.row.now ≤ c.loop-place.place = search rules in
    let some : 0 < length c.args.row.now = search rules in
    c.loop-place.invariant.items ∙ ap (λ x. c.args.out.now.items ++ x) (sum_done g.R.Rank.R c.args.form.now c.args.row.now c.loop-place.place some end)
