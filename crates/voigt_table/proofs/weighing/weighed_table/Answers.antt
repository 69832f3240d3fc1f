use Rattle.std.proofs.Common.{◌^◌, ℕ, List, map, sym, ◌∙◌, subst}
use Rattle.tensor_defs.specs.Voigt.{rank_of_blocks}
use Rattle.reduced_form.specs.declared.forms.Term.{Term}
use Rattle.reduced_form.specs.Forms.{FormValue, IsForm, row_at}
use Rattle.voigt_table.specs.Blocks.{component_at, entry_at, entry_count, entry_of, sizes_of}
use Rattle.voigt_table.specs.Tables.{kept_value}
use Rattle.voigt_table.specs.Weighing.{AreWeighed, IsWeighed, WeighsTooMuch, entry_of_place}
use Rattle.voigt_table.proofs.KeptLaws.{kept_over, kept_weighed, told_err, weighed_form}
use Rattle.voigt_table.proofs.weighing.weighed_table.Goals as goal

pub returns-in_err-weigh_rows-clause-told : goal.returns-in_err-weigh_rows-clause-told
returns-in_err-weigh_rows-clause-told g c =
    let b = c.args.blocks in
    let w = c.args.weights in
    let f : FormValue = c.args.form in
    let given = c.into_parts-free.ensures in
    told_err g.R.Rank.R w (sizes_of b) f c.from_residual.result c.in_err-weigh_rows.field-0.0 c.from_residual.ensures.1 (λ large.
    let over = c.in_err-weigh_rows.ensures.grows large in
    kept_over g.R.Rank.R g.R.Rank.LEN b w f c.requires g.R.Rank.power given.whole over.0 over.1
    (subst (λ (fs : List ℕ). WeighsTooMuch w (entry_of_place (sizes_of b) (map (entry_of b) fs)) (entry_at (sizes_of b) over.0) (row_at f.rows (component_at b over.0)))
    (c.deref.ensures.value ∙ given.free)
    (subst (λ (rows : List (List Term)). WeighsTooMuch w (entry_of_place (sizes_of b) (map (entry_of b) c.deref.result.now)) (entry_at (sizes_of b) over.0) (row_at rows (component_at b over.0)))
    given.rows over.2)))

pub invariant_of-result : goal.invariant_of-result
invariant_of-result g c =
    let b = c.args.blocks in
    let w = c.args.weights in
    let f : FormValue = c.args.form in
    let given = c.into_parts-free.ensures in
    let rows : List (List Term) = map (λ row. row.items) c.weigh_rows.new.rows.items in
    let told : AreWeighed b w f.free f.rows rows (entry_count (sizes_of b)) =
    subst (λ (fs : List ℕ). AreWeighed b w fs f.rows rows (entry_count (sizes_of b))) (c.deref.ensures.value ∙ given.free)
    (subst (λ (old : List (List Term)). AreWeighed b w c.deref.result.now old rows (entry_count (sizes_of b))) given.rows c.in_ok-weigh_rows.ensures.ok) in
    subst (λ (fs : List ℕ). IsForm (3 ^ rank_of_blocks (sizes_of b)) (record { free = fs; rows = rows })) (sym given.free)
    (weighed_form g.R.Rank.R g.R.Rank.LEN b w f c.requires g.R.Rank.power given.whole rows told)

pub returns-clause-told : goal.returns-clause-told
returns-clause-told g c =
    let b = c.args.blocks in
    let w = c.args.weights in
    let f : FormValue = c.args.form in
    let given = c.into_parts-free.ensures in
    let rows : List (List Term) = map (λ row. row.items) c.weigh_rows.new.rows.items in
    let told : AreWeighed b w f.free f.rows rows (entry_count (sizes_of b)) =
    subst (λ (fs : List ℕ). AreWeighed b w fs f.rows rows (entry_count (sizes_of b))) (c.deref.ensures.value ∙ given.free)
    (subst (λ (old : List (List Term)). AreWeighed b w c.deref.result.now old rows (entry_count (sizes_of b))) given.rows c.in_ok-weigh_rows.ensures.ok) in
    subst (λ (fs : List ℕ). IsWeighed g.R.Rank.R w (sizes_of b) f (kept_value w b fs rows)) (sym given.free)
    (kept_weighed g.R.Rank.R g.R.Rank.LEN b w f c.requires g.R.Rank.power given.whole rows told)
