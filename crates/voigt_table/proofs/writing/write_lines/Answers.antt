use Rattle.list_laws.proofs.Kit.{◌≡◌, ℕ, List, arith, ap, sym, ◌∙◌, subst, flat_map}
use Rattle.std.specs.Prelude.{◌++◌}
use Rattle.tensor_defs.specs.Voigt.{VoigtEntry, entries}
use Rattle.text_defs.specs.AnswerTexts.{entry_line}
use Rattle.form_lines.specs.Texts.{lines_upto}
use Rattle.form_lines.proofs.TextLaws.{grown_twice, lines_grown, lines_start}
use Rattle.voigt_table.specs.Blocks.{entry_at, entry_count, sizes_of}
use Rattle.voigt_table.specs.Tables.{voigt_of}
use Rattle.voigt_table.proofs.TextLaws.{lines_listed}
use Rattle.voigt_table.proofs.writing.write_lines.Goals as goal

pub loop-number-init : goal.loop-number-init
loop-number-init c = record { items = lines_start _ c.args.out.now.items; capacity = omega arith }

pub returns-in_err-write_line-clause-longer : goal.returns-in_err-write_line-clause-longer
returns-in_err-write_line-clause-longer c =
    grown_twice (record { more = _; grown = c.loop-number.invariant.items }) c.write_line.ensures.longer

pub loop-number-preserved : goal.loop-number-preserved
loop-number-preserved c = record {
  items =
      let v = c.args.table.now in
      let f : ℕ → List ℕ = λ n. entry_line v.weights (voigt_of v) (entry_at v.sizes n) in
      lines_grown f c.loop-number.number c.args.out.now.items c.loop-number.out.items _ c.loop-number.invariant.items
      c.in_ok-write_line.ensures.ok;
  capacity = omega (arith, c.loop-number.invariant.capacity, c.in_ok-write_line.ensures.capacity);
}

pub returns-clause-ok : goal.returns-clause-ok
returns-clause-ok c =
    let v = c.args.table.now in
    let b = c.table.inside.blocks in
    let old : List ℕ = c.args.out.now.items in
    let line : VoigtEntry → List ℕ = entry_line v.weights (voigt_of v) in
    let sizes : v.sizes ≡ sizes_of b = ap (λ x. x.sizes) (sym c.table.view_is) in
    let last : c.loop-number.number ≡ entry_count (sizes_of b) = omega (arith, c.loop-number-test.false, c.entry_count-number-end.ensures) in
    c.loop-number.invariant.items
    ∙ ap (λ (n : ℕ). old ++ lines_upto (λ k. line (entry_at v.sizes k)) n) last
    ∙ ap (λ (x : List ℕ). old ++ x)
    (subst (λ (ss : List ℕ). lines_upto (λ k. line (entry_at ss k)) (entry_count (sizes_of b)) ≡ flat_map line (entries ss)) (sym sizes)
    (lines_listed b line))
