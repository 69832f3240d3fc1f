use Rattle.list_laws.proofs.Kit.{◌≡◌, ◌<◌, ℕ, List, [], length, map, ap, sym, ◌∙◌, subst, get_or-map, length-map}
use Rattle.reduced_form.specs.declared.forms.Term.{Term}
use Rattle.reduced_form.specs.Forms.{row_at}
use Rattle.voigt_table.specs.Blocks.{entry_count, sizes_of}
use Rattle.voigt_table.proofs.KeptLaws.{kept_row}
use Rattle.voigt_table.proofs.tables.VoigtTable.row.Goals as goal

pub returns : goal.returns
returns c =
    let t = c.self.inside in
    let rows : List (List Term) = map (λ row. row.items) t.rows.items in
    let inside : c.component.result < length t.rows.items =
    subst (λ (n : ℕ). c.component.result < n) (sym c.self.invariant.len ∙ length-map t.rows.items (λ row. row.items)) c.component.ensures.below in
    let there : c.as_slice.result.now ≡ row_at rows c.component.result =
    c.as_slice.ensures ∙ ap (λ row. row.items) c.index.ensures
    ∙ sym (get_or-map (λ row. row.items) t.rows.items c.component.result c.index.result.now [] inside) in
    let number : c.args.number < entry_count (sizes_of t.blocks) =
    subst (λ (bs : List ℕ). c.args.number < entry_count bs) (ap (λ x. x.sizes) (sym c.self.view_is)) c.requires in
    there ∙ ap (row_at rows) c.component.ensures.at ∙ sym (kept_row t.blocks rows c.args.number number)
    ∙ ap (λ x. row_at x.rows c.args.number) c.self.view_is
