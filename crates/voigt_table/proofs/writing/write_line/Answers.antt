use Rattle.std.proofs.Common.{◌≡◌, ◌++◌, ◌<◌, ℕ, List, [], ◌∷◌, arith, rules, length, map, take, false, ap, refl, sym, ◌∙◌, subst}
use Rattle.tensor_defs.specs.Lists.{Each}
use Rattle.text_defs.specs.Prelude.{entry_name, has_entry, sum_text}
use Rattle.reduced_form.specs.declared.forms.Term.{Term}
use Rattle.reduced_form.specs.Forms.{row_at}
use Rattle.voigt_table.specs.Blocks.{entry_at, sizes_of}
use Rattle.voigt_table.specs.Tables.{IsVoigtValue, VoigtValue, voigt_of}
use Rattle.voigt_table.specs.Texts.{named_entries}
use Rattle.voigt_table.proofs.KeptLaws.{kept_whole}
use Rattle.voigt_table.proofs.TextLaws.{sum_line, zero_line_whole}
use Rattle.voigt_table.proofs.writing.write_line.Goals as goal

no_terms : (xs : List Term) → length xs ≡ 0 → xs ≡ []
no_terms [] h = refl
no_terms (x ∷ xs) h = absurd (omega arith)

pub returns-clause-ok : goal.returns-clause-ok
returns-clause-ok c =
    let v : VoigtValue = c.args.table.now in
    let n : ℕ = c.args.number in
    let t = c.table.inside in
    let b = t.blocks in
    let sizes : v.sizes ≡ sizes_of b = ap (λ x. x.sizes) (sym c.table.view_is) in
    let weights : c.table.inside.weights ≡ v.weights = ap (λ x. x.weights) c.table.view_is in
    let whole : IsVoigtValue v =
    subst (λ (x : VoigtValue). IsVoigtValue x) c.table.view_is
    (kept_whole t.blocks t.weights t.free.items (map (λ row. row.items) t.rows.items) c.table.invariant) in
    let name : c.write_name.new.out.items ≡ c.args.out.now.items ++ entry_name v.weights (entry_at v.sizes n) =
    c.in_ok-write_name.ensures.ok ∙ (λ i. c.args.out.now.items ++ entry_name (weights i) (c.entry-entry.ensures i)) in
    let free : has_entry (voigt_of v).free (entry_at v.sizes n) ≡ false =
    sym (c.requires.marks.is n c.requires.number) ∙ c.if-marks-number.false in
    let kept : c.write_sum.new.out.items ≡ c.append_to-2.new.out.items ++ sum_text (named_entries v (row_at v.rows n)) =
    c.in_ok-write_sum.ensures.ok ∙ ap (λ (ts : List Term). c.append_to-2.new.out.items ++ sum_text (named_entries v ts)) c.row-row.ensures in
    sum_line b v n c.args.out.now.items c.write_name.new.out.items c.append_to-2.new.out.items c.write_sum.new.out.items
    c.append_to-3.new.out.items (entry_name v.weights (entry_at v.sizes n)) sizes c.requires.number whole free refl name
    c.in_ok-append_to-3.ensures.ok kept c.in_ok-append_to-4.ensures.ok

pub write_sum-requires : goal.write_sum-requires
write_sum-requires c =
    let v : VoigtValue = c.args.table.now in
    let t = c.table.inside in
    let whole : IsVoigtValue v =
    subst (λ (x : VoigtValue). IsVoigtValue x) c.table.view_is
    (kept_whole t.blocks t.weights t.free.items (map (λ row. row.items) t.rows.items) c.table.invariant) in
    subst (λ (ts : List Term). Each (λ t. t.free < length v.free) ts) (sym c.row-row.ensures) (whole.named c.args.number c.requires.number)

pub returns-then-is_empty-clause-ok : goal.returns-then-is_empty-clause-ok
returns-then-is_empty-clause-ok c =
    let v : VoigtValue = c.args.table.now in
    let n : ℕ = c.args.number in
    let t = c.table.inside in
    let b = t.blocks in
    let sizes : v.sizes ≡ sizes_of b = ap (λ x. x.sizes) (sym c.table.view_is) in
    let weights : t.weights ≡ v.weights = ap (λ x. x.weights) c.table.view_is in
    let whole : IsVoigtValue v =
    subst (λ (x : VoigtValue). IsVoigtValue x) c.table.view_is
    (kept_whole t.blocks t.weights t.free.items (map (λ row. row.items) t.rows.items) c.table.invariant) in
    let free : has_entry (voigt_of v).free (entry_at v.sizes n) ≡ false =
    sym (c.requires.marks.is n c.requires.number) ∙ c.if-marks-number.false in
    let none : length c.row-row.result.now ≡ 0 = search rules in
    zero_line_whole b v n c.args.out.now.items c.append_to-then-is_empty.new.out.items
    (take c.zero_bytes-len.result.1 c.zero_bytes-len.result.0) sizes c.requires.number whole free
    (sym c.row-row.ensures ∙ no_terms c.row-row.result.now none)
    (c.zero_bytes-len.ensures.line ∙ (λ i. entry_name (weights i) (c.entry-entry.ensures i) ++ (32 ∷ 61 ∷ 32 ∷ 48 ∷ 10 ∷ [])))
    c.in_ok-append_to-2.ensures.ok
