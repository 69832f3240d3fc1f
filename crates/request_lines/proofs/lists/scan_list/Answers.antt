use Rattle.std.proofs.Common.{◌≡◌, ◌-◌, ◌<◌, ◌≤◌, ℕ, suc, List, length, drop, take, arith, subst}
use Rattle.std.proofs.lemmas.List.{take_all, length-drop}
use Rattle.text_defs.specs.Prelude.{IsFaulty, IsJahnText}
use Rattle.request_lines.specs.Words.{words_behind}
use Rattle.request_lines.proofs.WordLists.{Gone, Gone-wrong, Gone-last, Gone-next, Gone-one, Gone-one-wrong}
use Rattle.request_lines.proofs.lists.scan_list.Goals as goal

step_down : (n : ℕ) → 0 < n → n ≡ suc (n - 1)
step_down n h = omega arith

inner : (all : ℕ) (text : List ℕ) (start left : ℕ) → 0 < left → Gone all text start left → Gone all text start (suc (left - 1))
inner all text start left some h = let P : ℕ → Type 0 = λ (k : ℕ). Gone all text start k in subst P (step_down left some) h

last : (all : ℕ) (text : List ℕ) (start left : ℕ) → left ≤ 0 → Gone all text start left → Gone all text start 0
last all text start left none h =
    let P : ℕ → Type 0 = λ (k : ℕ). Gone all text start k in
    let is : left ≡ 0 = omega arith in
    subst P is h

same : (text : List ℕ) (start : ℕ) → take (length text - start) (drop start text) ≡ drop start text
same text start = take_all _ _ (omega (arith, length-drop start text))

pub returns-in-Ok-2 : goal.returns-in-Ok-2
returns-in-Ok-2 c =
    let all = words_behind c.args.format in
    let h = inner all c.args.text.now c.loop-left.start c.loop-left.left c.loop-left-test.true c.loop-left.invariant in
    Gone-last all c.args.text.now c.loop-left.start (c.loop-left.left - 1) h c.word_end-end.result c.word_end-end.ensures
    (c.in-Ok-2.ensures.0, c.in-Ok-2.ensures.1) c.if-end-text.false

pub returns-in-Err : goal.returns-in-Err
returns-in-Err c =
    let all = words_behind c.args.format in
    let h = inner all c.args.text.now c.loop-left.start c.loop-left.left c.loop-left-test.true c.loop-left.invariant in
    Gone-wrong all c.args.text.now c.loop-left.start (c.loop-left.left - 1) h c.word_end-end.result c.word_end-end.ensures
    c.in-Err.fault.place c.in-Err.ensures

pub loop-left-preserved : goal.loop-left-preserved
loop-left-preserved c =
    let all = words_behind c.args.format in
    let h = inner all c.args.text.now c.loop-left.start c.loop-left.left c.loop-left-test.true c.loop-left.invariant in
    Gone-next all c.args.text.now c.loop-left.start (c.loop-left.left - 1) h c.word_end-end.result c.word_end-end.ensures
    (c.in-Ok.ensures.0, c.in-Ok.ensures.1) c.if-end-text.true

pub returns-in-Ok-scan_jahn : goal.returns-in-Ok-scan_jahn
returns-in-Ok-scan_jahn c =
    let all = words_behind c.args.format in
    let text = c.args.text.now in
    let start = c.loop-left.start in
    let P : List ℕ → Type 0 = IsJahnText in
    Gone-one all text start (last all text start c.loop-left.left c.loop-left-test.false c.loop-left.invariant)
    (subst P (same text start) (c.in-Ok-scan_jahn.ensures.0, c.in-Ok-scan_jahn.ensures.1))

pub returns-in-Err-scan_jahn : goal.returns-in-Err-scan_jahn
returns-in-Err-scan_jahn c =
    let all = words_behind c.args.format in
    let text = c.args.text.now in
    let start = c.loop-left.start in
    let place = c.in-Err-scan_jahn.fault.place in
    let P : List ℕ → Type 0 = λ (l : List ℕ). IsFaulty IsJahnText l place in
    Gone-one-wrong all text start place (last all text start c.loop-left.left c.loop-left-test.false c.loop-left.invariant)
    (subst P (same text start) c.in-Err-scan_jahn.ensures)
