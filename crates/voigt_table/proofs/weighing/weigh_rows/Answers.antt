use Rattle.list_laws.proofs.Kit.{◌≡◌, ◌^◌, ◌<◌, ℕ, List, [], length, map, refl, rules, ap, sym, ◌∙◌, subst, get_or-map, length-map}
use Rattle.tensor_defs.specs.declared.Weights.{Weights}
use Rattle.tensor_defs.specs.Prelude.{Each, rank_of_blocks}
use Rattle.reduced_form.specs.declared.forms.Term.{Term}
use Rattle.reduced_form.specs.Forms.{row_at}
use Rattle.voigt_table.specs.Blocks.{entry_at, entry_count, entry_of, sizes_of}
use Rattle.voigt_table.specs.Weighing.{AreHeld, AreWeighed, AreWeightedTerms, entry_of_place}
use Rattle.voigt_table.proofs.KeptLaws.{plain_weighed, weighed_set}
use Rattle.voigt_table.proofs.weighing.weigh_rows.Goals as goal

pub returns-in-Plain-clause-ok : goal.returns-in-Plain-clause-ok
returns-in-Plain-clause-ok c =
    let b = c.args.blocks in
    let free : List ℕ = c.args.free.now in
    let rows : List (List Term) = map (λ row. row.items) c.args.rows.now.items in
    let same : length rows ≡ length c.args.rows.now.items = length-map c.args.rows.now.items (λ row. row.items) in
    let held = subst (λ xs. (k : ℕ) → k < length xs → AreHeld (row_at (map (λ row. row.items) xs) k)) c.deref.ensures.value c.held_rows.ensures in
    subst (λ (w : Weights). AreWeighed b w free rows rows (entry_count (sizes_of b))) (sym c.in-Plain.is)
    (plain_weighed b free rows (same ∙ c.requires.size) (λ k l. c.requires.named k (subst (λ (n : ℕ). k < n) same l))
    (λ k l. held k (subst (λ (n : ℕ). k < n) same l)))

pub weigh_row-requires-clause-named : goal.weigh_row-requires-clause-named
weigh_row-requires-clause-named c =
    let n : ℕ = c.component.result in
    let told = c.loop-number.invariant.rows in
    let size : length (map (λ row. row.items) c.args.rows.now.items) ≡ 3 ^ rank_of_blocks (sizes_of c.args.blocks) =
    length-map c.args.rows.now.items (λ row. row.items) ∙ c.requires.size in
    let below : n < length (map (λ row. row.items) c.args.rows.now.items) = subst (λ (m : ℕ). n < m) (sym size) c.component.ensures.below in
    let inside : n < length c.loop-number.rows.items =
    subst (λ (m : ℕ). n < m) (sym told.len ∙ length-map c.loop-number.rows.items (λ row. row.items)) below in
    subst (λ (ts : List Term). Each (λ t. t.free < length c.args.free.now) ts)
    (get_or-map (λ row. row.items) c.loop-number.rows.items n c.index_mut.result.now [] inside
    ∙ ap (λ row. row.items) (sym c.index_mut.ensures.value) ∙ sym c.as_mut_slice-row.ensures.value)
    (told.named n below)

pub loop-number-preserved : goal.loop-number-preserved
loop-number-preserved c =
    let w = c.args.weights in
    let b = c.args.blocks in
    let n : ℕ = c.loop-number.number in
    let inside : n < entry_count (sizes_of b) = search rules in
    record {
      rows = weighed_set (λ row. row.items) b w c.args.free.now (map (λ row. row.items) c.args.rows.now.items) c.loop-number.rows.items n
          c.component.result c.index_mut.result.now _ c.weigh_row.new.row
          (length-map c.args.rows.now.items (λ row. row.items) ∙ c.requires.size) c.loop-number.invariant.rows inside c.component.ensures.at
          c.index_mut.ensures.value
          (subst (λ (ts : List Term). AreWeightedTerms w (entry_of_place (sizes_of b) (map (entry_of b) c.args.free.now)) (entry_at (sizes_of b) n) ts c.weigh_row.new.row)
          c.as_mut_slice-row.ensures.value c.in_ok-weigh_row.ensures.ok) refl;
    }
