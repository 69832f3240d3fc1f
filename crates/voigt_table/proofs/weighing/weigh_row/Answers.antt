use Rattle.std.proofs.Common.{◌≡◌, ◌≤◌, ◌<◌, ℕ, length, get_or, map, rules, ap, sym, ◌∙◌, subst, refl}
use Rattle.tensor_defs.specs.Voigt.{VoigtEntry, shift}
use Rattle.reduced_form.specs.declared.forms.Term.{Term}
use Rattle.voigt_table.specs.Blocks.{entry_at, entry_of, sizes_of}
use Rattle.voigt_table.specs.Weighing.{entry_of_place}
use Rattle.voigt_table.proofs.KeptLaws.{kept_free, row_done, row_next, term_here, term_over, term_weighed}
use Rattle.voigt_table.proofs.ListLaws.{each_at}
use Rattle.voigt_table.proofs.TableLaws.{no_term}
use Rattle.voigt_table.proofs.weighing.weigh_row.Goals as goal

pub returns-in-Err-clause-grows : goal.returns-in-Err-clause-grows
returns-in-Err-clause-grows c = λ large.
    let w = c.args.weights in
    let b = c.args.blocks in
    let frees : ℕ → VoigtEntry = entry_of_place (sizes_of b) (map (entry_of b) c.args.free.now) in
    let e : VoigtEntry = entry_at (sizes_of b) c.args.number in
    let p : ℕ = c.loop-place.place in
    let inside : p < length c.args.row.now = search rules in
    let t : Term = get_or c.loop-place.row p c.index-row-place.result in
    let u : Term = get_or c.loop-place.row p c.index-row-place-in-loop-place.result in
    let of_t : t ≡ get_or c.args.row.now p no_term = sym c.index-row-place.is ∙ term_here w frees e c.args.row.now c.loop-place.row p c.index-row-place.result c.loop-place.invariant.row inside c.index-row-place.is in
    let of_u : u ≡ get_or c.args.row.now p no_term = sym c.index-row-place-in-loop-place.is ∙ term_here w frees e c.args.row.now c.loop-place.row p c.index-row-place-in-loop-place.result c.loop-place.invariant.row inside c.index-row-place-in-loop-place.is in
    let same : t ≡ u = of_t ∙ sym of_u in
    let small : t.free < length c.args.free.now =
    subst (λ (x : Term). x.free < length c.args.free.now) (sym of_t) (each_at (λ x. x.free < length c.args.free.now) no_term c.args.row.now c.requires.named p inside) in
    let of_free : c.shift_of-other.result ≡ shift w (frees u.free) =
    c.shift_of-other.ensures.value ∙ ap (λ x. shift w (entry_at (sizes_of b) x)) (sym (kept_free b c.args.free.now t.free small))
    ∙ ap (λ x. shift w (frees x.free)) same in
    term_over w frees e c.args.row.now p u c.shift-shift.result c.shift_of-other.result inside of_u c.shift-shift.ensures.value of_free c.in-Err.ensures

pub loop-place-preserved : goal.loop-place-preserved
loop-place-preserved c =
    let w = c.args.weights in
    let b = c.args.blocks in
    let frees : ℕ → VoigtEntry = entry_of_place (sizes_of b) (map (entry_of b) c.args.free.now) in
    let e : VoigtEntry = entry_at (sizes_of b) c.args.number in
    let p : ℕ = c.loop-place.place in
    let inside : p < length c.args.row.now = search rules in
    let t : Term = get_or c.loop-place.row p c.index-row-place.result in
    let u : Term = get_or c.loop-place.row p c.index-row-place-in-loop-place.result in
    let of_t : t ≡ get_or c.args.row.now p no_term = sym c.index-row-place.is ∙ term_here w frees e c.args.row.now c.loop-place.row p c.index-row-place.result c.loop-place.invariant.row inside c.index-row-place.is in
    let of_u : u ≡ get_or c.args.row.now p no_term = sym c.index-row-place-in-loop-place.is ∙ term_here w frees e c.args.row.now c.loop-place.row p c.index-row-place-in-loop-place.result c.loop-place.invariant.row inside c.index-row-place-in-loop-place.is in
    let of_v = term_here w frees e c.args.row.now c.loop-place.row p c.index-row-place-in-Ok.result c.loop-place.invariant.row inside c.index-row-place-in-Ok.is in
    let same : t ≡ u = of_t ∙ sym of_u in
    let small : t.free < length c.args.free.now =
    subst (λ (x : Term). x.free < length c.args.free.now) (sym of_t) (each_at (λ x. x.free < length c.args.free.now) no_term c.args.row.now c.requires.named p inside) in
    let of_free : c.shift_of-other.result ≡ shift w (frees u.free) =
    c.shift_of-other.ensures.value ∙ ap (λ x. shift w (entry_at (sizes_of b) x)) (sym (kept_free b c.args.free.now t.free small))
    ∙ ap (λ x. shift w (frees x.free)) same in
    record {
      row = row_next w frees e c.args.row.now c.loop-place.row _ p _ c.loop-place.invariant.row inside
          (term_weighed w frees e u (get_or c.args.row.now p no_term) c.shift-shift.result c.shift_of-other.result c.in-Ok.factor _ of_u
          c.shift-shift.ensures.value of_free c.in-Ok.ensures (ap (λ x. x.free) (sym c.index-row-place-in-Ok.is ∙ of_v))) refl;
    }

pub returns-clause-ok : goal.returns-clause-ok
returns-clause-ok c =
    let b = c.args.blocks in
    let frees : ℕ → VoigtEntry = entry_of_place (sizes_of b) (map (entry_of b) c.args.free.now) in
    let end : length c.args.row.now ≤ c.loop-place.place = search rules in
    row_done c.args.weights frees (entry_at (sizes_of b) c.args.number) c.args.row.now c.loop-place.row c.loop-place.place c.loop-place.invariant.row end
