use Rattle.std.proofs.Common.{◌≡◌, ◌∙◌, sym, ap, arith, length}
use Rattle.text_defs.specs.GroupTexts.{Suffix, suffix_at}
use Rattle.group_symbol.proofs.SuffixRows.{Rows-start, Rows-end, Rows-skip, Rows-next}
use Rattle.group_symbol.proofs.read.read_suffix.Goals as goal
use Rattle.group_symbol.proofs.read.read_suffix.Goals.{then-contains+else-same-suffix, else-same-suffix-via-then-same-suffix+else-same-word, else-same-suffix-via-else-same-suffix, else-contains}

pub loop-row-init : goal.loop-row-init
loop-row-init c = Rows-start c.args.parent c.args.word.now

pub returns : goal.returns
returns c =
    let e : c.loop-row.row ≡ 7 = omega arith in
    Rows-end c.args.parent c.args.word.now c.loop-row.place (rw e at c.loop-row.invariant)

pub loop-row-preserved : goal.loop-row-preserved
loop-row-preserved c =
    let parent = c.args.parent in
    let word = c.args.word.now in
    let row = c.loop-row.row in
    let contains : (suffix_at row).parents parent ≡ c.contains.result =
    sym (ap (λ (s : Suffix). s.parents parent) c.suffix_at-suffix.ensures) ∙ sym c.contains.ensures
    in
    elim c.if-contains.branch [
      | then-contains+else-same-suffix w ↦
          let n = w.common_front-same.result in
          let f = w.common_front-same.ensures in
          let text = c.suffix_at-suffix.result.now.text.now in
          let part : n ≡ length text → n ≡ length word → ⊥ =
          λ whole_text whole_word. elim w.else-same-suffix.branch [
            | else-same-suffix-via-then-same-suffix+else-same-word u ↦ u.if-same-word.false whole_word
            | else-same-suffix-via-else-same-suffix u ↦ u.if-same-suffix.false whole_text
          ]
          in
          rw (w.place-is, w.max-place.ensures) (Rows-next parent word row c.loop-row.place c.loop-row.invariant (contains ∙ w.if-contains.true) text (ap (λ (s : Suffix). s.text) c.suffix_at-suffix.ensures) n f.within_a f.within_b f.same f.differ (omega arith) part)
      | else-contains w ↦
          rw w.place-is (Rows-skip parent word row c.loop-row.place c.loop-row.invariant (contains ∙ w.if-contains.false))
    ]
