use Rattle.std.proofs.Common.{◌≡◌, ℕ, ◌<◌, List, [], length, sym, subst}
use Rattle.constraint_rows.proofs.GatherLaws.{order_total}
use Rattle.tensor_defs.specs.Prelude.{GrowsFrom, Each}
use Rattle.sparse_rows.specs.Prelude.{AreGivenRows, IsEliminated, kepts, lines, IsKeptWithin}
use Rattle.reduced_form.specs.Prelude.{free_at, AreSparse, CanPlace}
use Rattle.reduced_form.proofs.FreeLaws.{free_apart}
use Rattle.reduced_form.proofs.Systems.{grows_told, kept_within, parts_of, rows_given, rows_place, system_made, told_grows}
use Rattle.reduced_form.proofs.ToldLaws.{eliminated_fits, err_same}
use Rattle.reduced_form.proofs.eliminating.eliminate.Goals as goal

pub places_of-requires-clause-apart : goal.places_of-requires-clause-apart
places_of-requires-clause-apart g c =
    subst (λ (xs : List ℕ). (i k : ℕ) → i < length xs → k < length xs → free_at xs i ≡ free_at xs k → i ≡ k)
    (sym c.deref.ensures.value) (free_apart (order_total g.R.Rank.LEN g.R.Rank.R g.R.Rank.power c.args.order.now).apart c.in_ok-unknowns.ensures)

pub sparse_rows_of-requires-clause-whole : goal.sparse_rows_of-requires-clause-whole
sparse_rows_of-requires-clause-whole g c =
    let sys = system_made g.R.Rank.power c.requires.sound c.in_ok-unknowns.ensures c.deref.ensures.value c.in_ok-places.ensures in
    subst (λ (xs : List ℕ). Each (CanPlace g.R.Rank.LEN xs) c.args.rows.now) (sym c.deref-2.ensures.value)
    (rows_place sys c.args.rows.now c.requires.rows)

pub kept_rows-requires : goal.kept_rows-requires
kept_rows-requires g c =
    let sys = system_made g.R.Rank.power c.requires.sound c.in_ok-unknowns.ensures c.deref.ensures.value c.in_ok-places.ensures in
    let sparse = subst (λ (xs : List ℕ). AreSparse g.R.Rank.LEN xs c.args.rows.now c.in_ok-sparse.sparse.items) c.deref-2.ensures.value c.in_ok-sparse.ensures in
    subst AreGivenRows (sym c.deref-3.ensures.value) (rows_given sys c.args.rows.now c.in_ok-sparse.sparse.items sparse)

pub returns-in_err-kept-clause-grows : goal.returns-in_err-kept-clause-grows
returns-in_err-kept-clause-grows g c =
    let sys = system_made g.R.Rank.power c.requires.sound c.in_ok-unknowns.ensures c.deref.ensures.value c.in_ok-places.ensures in
    let sparse = subst (λ (xs : List ℕ). AreSparse g.R.Rank.LEN xs c.args.rows.now c.in_ok-sparse.sparse.items) c.deref-2.ensures.value c.in_ok-sparse.ensures in
    err_same c.from_residual-in_err-kept.result c.in_err-kept.field-0.0 _ c.from_residual-in_err-kept.ensures.1
    (λ p. grows_told sys c.args.rows.now c.in_ok-sparse.sparse.items c.requires.rows sparse
    (subst (λ rs. GrowsFrom [] (lines rs)) c.deref-3.ensures.value (c.in_err-kept.ensures.grows p)))

pub told_form-requires-clause-within : goal.told_form-requires-clause-within
told_form-requires-clause-within g c =
    let sys = system_made g.R.Rank.power c.requires.sound c.in_ok-unknowns.ensures c.deref.ensures.value c.in_ok-places.ensures in
    let rs = c.in_ok-sparse.sparse.items in
    let ks = c.in_ok-kept.kept.items in
    let sparse = subst (λ (xs : List ℕ). AreSparse g.R.Rank.LEN xs c.args.rows.now rs) c.deref-2.ensures.value c.in_ok-sparse.ensures in
    let done = subst (λ x. IsEliminated (lines x) (kepts ks)) c.deref-3.ensures.value c.in_ok-kept.ensures.eliminated in
    let within = kept_within sys c.args.rows.now rs (kepts ks) c.requires.rows sparse done in
    subst (λ (xs : List ℕ). Each (IsKeptWithin (length xs)) (kepts c.deref-6.result.now)) (sym c.deref-4.ensures.value)
    (subst (λ x. Each (IsKeptWithin (length c.in_ok-unknowns.unknowns.items)) (kepts x)) (sym c.deref-6.ensures.value) within)

pub returns-clause-fits : goal.returns-clause-fits
returns-clause-fits g c =
    let sys = system_made g.R.Rank.power c.requires.sound c.in_ok-unknowns.ensures c.deref.ensures.value c.in_ok-places.ensures in
    let rs = c.in_ok-sparse.sparse.items in
    let sparse = subst (λ (xs : List ℕ). AreSparse g.R.Rank.LEN xs c.args.rows.now rs) c.deref-2.ensures.value c.in_ok-sparse.ensures in
    eliminated_fits sys c.deref-4.result.now c.deref-5.result.now c.args.rows.now rs c.deref-3.result.now c.in_ok-kept.kept.items c.deref-6.result.now c.in_ok-form.form
    c.deref-4.ensures.value c.deref-5.ensures.value c.deref-3.ensures.value c.deref-6.ensures.value c.requires.rows sparse c.in_ok-kept.ensures.eliminated c.in_ok-form.ensures

pub returns-clause-calm : goal.returns-clause-calm
returns-clause-calm g c =
    let sys = system_made g.R.Rank.power c.requires.sound c.in_ok-unknowns.ensures c.deref.ensures.value c.in_ok-places.ensures in
    let rs = c.in_ok-sparse.sparse.items in
    let sparse = subst (λ (xs : List ℕ). AreSparse g.R.Rank.LEN xs c.args.rows.now rs) c.deref-2.ensures.value c.in_ok-sparse.ensures in
    λ us h grows. c.in_ok-kept.ensures.eliminated.calm
    (subst (λ x. GrowsFrom [] (lines x)) (sym c.deref-3.ensures.value) (told_grows sys c.args.rows.now rs c.requires.rows sparse us h grows))

pub returns-clause-parts : goal.returns-clause-parts
returns-clause-parts g c =
    let sys = system_made g.R.Rank.power c.requires.sound c.in_ok-unknowns.ensures c.deref.ensures.value c.in_ok-places.ensures in
    let rs = c.in_ok-sparse.sparse.items in
    let sparse = subst (λ (xs : List ℕ). AreSparse g.R.Rank.LEN xs c.args.rows.now rs) c.deref-2.ensures.value c.in_ok-sparse.ensures in
    parts_of sys c.args.rows.now rs sparse
