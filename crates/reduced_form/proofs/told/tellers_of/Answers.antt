use Rattle.std.proofs.Common.{◌≡◌, ◌<◌, ap, sym, ◌∙◌, subst, length, arith}
use Rattle.std.specs.Prelude.{slice_index_or}
use Rattle.sparse_rows.specs.KeptRows.{kepts}
use Rattle.reduced_form.specs.Eliminated.{ArePivots, pivot_at}
use Rattle.reduced_form.proofs.Numbering.{pivot_read, pivots_next}
use Rattle.reduced_form.proofs.told.tellers_of.Goals as goal

pub index_mut-requires : goal.index_mut-requires
index_mut-requires c =
    let ks = c.args.kept.now in
    let x = c.index-kept-place.result in
    let i = c.loop-place.place in
    let h : i < length ks = c.loop-place-test.true in
    let own : pivot_at (kepts ks) i ≡ x.pivot = pivot_read ks i x h c.index-kept-place.is in
    let low : pivot_at (kepts ks) i < c.args.unknowns = c.requires i h in
    let len = c.loop-place.invariant.pivots.len in
    let read : (slice_index_or ks i x).pivot ≡ x.pivot = ap (λ z. z.pivot) (sym c.index-kept-place.is) in
    omega (arith, own, low, len, read)

pub loop-place-preserved : goal.loop-place-preserved
loop-place-preserved c =
    let ks = c.args.kept.now in
    let x = c.index-kept-place.result in
    let i = c.loop-place.place in
    let h : i < length ks = c.loop-place-test.true in
    let own : pivot_at (kepts ks) i ≡ x.pivot = pivot_read ks i x h c.index-kept-place.is in
    let low : pivot_at (kepts ks) i < c.args.unknowns = c.requires i h in
    let read : (slice_index_or ks i x).pivot ≡ x.pivot = ap (λ z. z.pivot) (sym c.index-kept-place.is) in
    record {
      pivots = pivots_next c.args.unknowns (kepts ks) c.loop-place.tellers.items i (slice_index_or ks i x).pivot
          c.loop-place.invariant.pivots (read ∙ sym own) (omega (arith, own, low, read));
    }

pub returns : goal.returns
returns c =
    let e : c.loop-place.place ≡ length c.args.kept.now = omega arith in
    subst (λ m. ArePivots c.args.unknowns (kepts c.args.kept.now) c.loop-place.tellers.items m) e c.loop-place.invariant.pivots
