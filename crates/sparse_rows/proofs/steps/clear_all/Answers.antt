use Rattle.std.proofs.Common.{◌≡◌, ◌∙◌, ◌<◌, ◌+◌, ◌∷◌, List, length, get_or, slice_set, take, drop, ap, sym, subst, arith}
use Rattle.list_laws.proofs.Lists.{drop_head}
use Rattle.std.proofs.lemmas.List.{length-set, take_more_set, drop-set-lt}
use Rattle.sparse_rows.specs.KeptRows.{AreRows, kept_of}
use Rattle.sparse_rows.specs.declared.entry.KeptRow.{KeptRow}
use Rattle.sparse_rows.proofs.RowSteps.{cleared-away, clearing-at}
use Rattle.sparse_rows.proofs.steps.clear_all.Goals as goal

pub loop-place-preserved : goal.loop-place-preserved
loop-place-preserved c =
    let i = c.loop-place.place in
    let cur : List KeptRow = c.loop-place.kept.items in
    let old : KeptRow = c.index_mut-row.result.now in
    let new : KeptRow = c.clear_one.new.row in
    let h : i < length cur = omega (arith, c.loop-place-test.true, c.len-place-end.ensures, c.loop-place.invariant.3) in
    let is : old ≡ get_or cur i old = c.index_mut-row.ensures.value in
    let split : drop i cur ≡ old ∷ drop (i + 1) (slice_set cur i new) =
    drop_head cur i old h is ∙ ap (λ l. old ∷ l) (sym (drop-set-lt (i + 1) cur i new (omega arith))) in
    let s = clearing-at c.args.new.now c.args.kept.now.items (drop i cur) (drop (i + 1) (slice_set cur i new)) (take i cur) (take (i + 1) (slice_set cur i new)) old new
    c.loop-place.invariant.0 c.loop-place.invariant.1 split c.in_ok-clear_one.ensures.cleared (take_more_set cur i new h) in
    (s.0, s.1, (subst AreRows split c.loop-place.invariant.2).1, length-set cur i new ∙ c.loop-place.invariant.3)

pub returns-then-not-is_marked-clause-cleared : goal.returns-then-not-is_marked-clause-cleared
returns-then-not-is_marked-clause-cleared c =
    cleared-away c.args.seen.now (kept_of c.args.new.now) c.args.kept.now.items c.requires.seen c.requires.kept
    (sym c.is_marked.ensures ∙ c.if-not-is_marked.true)
