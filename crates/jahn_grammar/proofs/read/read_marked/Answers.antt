use Rattle.std.proofs.Common.{◌≡◌, ◌-◌, ◌+◌, ℕ, List, length, drop, take, arith, sym, subst}
use Rattle.std.proofs.lemmas.List.{take_all, length-drop}
use mathlib.Core.Bool.{xor}
use Rattle.jahn_grammar.specs.declared.Factor.{Factor}
use Rattle.jahn_grammar.proofs.TreeReads.{Taken, slice_factor, slice_more}
use Rattle.jahn_grammar.proofs.read.read_marked.Goals as goal

-- the slice is what is left of the word
same : (word : List ℕ) (at : ℕ) → take (length word - at) (drop at word) ≡ drop at word
same word at = take_all _ _ (omega (arith, length-drop at word))

pub read_factor-requires : goal.read_factor-requires
read_factor-requires c =
    let word = c.args.word.now in
    let at = c.loop-at.at in
    slice_factor word at c.loop-at.items.items c.loop-at.axial c.loop-at.magnetic c.loop-at.invariant c.loop-at-test.true
    (take (length word - at) (drop at word)) (same word at) c.marks_len-front.result c.marks_len-front.ensures

pub loop-at-preserved : goal.loop-at-preserved
unfolding xor
loop-at-preserved c =
    let word = c.args.word.now in
    let at = c.loop-at.at in
    let n = c.marks_len-front.result in
    let more =
    slice_more word at c.loop-at.items.items c.loop-at.axial c.loop-at.magnetic c.loop-at.invariant c.loop-at-test.true
    (take (length word - at) (drop at word)) (same word at) n c.marks_len-front.ensures c.in_ok-factor.factor
    c.in_ok-factor.used c.in_ok-factor.ensures c.contains-axial.result c.contains-magnetic.result
    c.contains-axial.ensures.value c.contains-magnetic.ensures.value in
    let P : List Factor → Type 0 = λ (fs : List Factor). Taken word (at + (n + c.in_ok-factor.used)) fs
    (xor c.loop-at.axial c.contains-axial.result) (xor c.loop-at.magnetic c.contains-magnetic.result) in
    subst P (sym c.in_ok-push.ensures.items) more
