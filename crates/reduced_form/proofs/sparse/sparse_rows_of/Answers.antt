use Rattle.std.proofs.Common.{◌<◌, ◌+◌, sym, length, subst, take, arith}
use Rattle.reduced_form.specs.Eliminated.{AreSparse}
use Rattle.reduced_form.proofs.Systems.{sparse_more}
use Rattle.reduced_form.proofs.sparse.sparse_rows_of.Goals as goal

pub loop-row-preserved : goal.loop-row-preserved
loop-row-preserved g c =
    let rows = c.args.rows.now in
    let i = c.loop-row.row-index in
    let h : i < length rows = c.loop-row-test.true in
    record {
      made = subst (λ rs. AreSparse g.R.Rank.LEN c.args.places.now (take (i + 1) rows) rs) (sym c.in_ok-push.ensures.items)
          (sparse_more g.R.Rank.LEN c.args.places.now rows i c.loop-row.sparse.items c.row-item.result c.in_ok-sparse_row.field-0
          c.loop-row.invariant.made h c.row-item.is c.in_ok-sparse_row.ensures);
      within = omega (arith, h);
    }
