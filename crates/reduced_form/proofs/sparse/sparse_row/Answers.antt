use Rattle.std.proofs.Common.{◌++◌, ◌∷◌, [], ◌<◌, get_or, sym, ◌∙◌, length, arith, rules, w64, SFits}
use Rattle.std.proofs.lemmas.Int.{to_z-of_z}
use Rattle.constraint_rows.specs.declared.rows.Part.{Part}
use Rattle.reduced_form.specs.Eliminated.{whole_of}
use Rattle.reduced_form.proofs.FormLaws.{get_told}
use Rattle.reduced_form.proofs.Numbering.{map_more}
use Rattle.reduced_form.proofs.sparse.sparse_row.Goals as goal

pub loop-place-preserved : goal.loop-place-preserved
loop-place-preserved g c =
    let ps = c.args.row.now in
    let i = c.loop-place.place in
    let x : Part = record { component = c.at-component.result.0; number = c.at-component.result.1 } in
    let told = get_told x x ps i c.at-component.ensures.part in
    let l : i < length ps = told.0 in
    let fits : SFits w64 c.at-component.result.1 = search rules in
    record {
      made = c.in_ok-push.ensures.items
          ∙ (λ j. c.loop-place.invariant.made j ++ record { unknown = get_or c.args.places.now (c.number.ensures.same j) 0; number = to_z-of_z w64 c.at-component.result.1 fits j } ∷ [])
          ∙ sym (map_more (whole_of c.args.places.now) ps i x l (sym told.1));
      within = omega (arith, l);
    }
