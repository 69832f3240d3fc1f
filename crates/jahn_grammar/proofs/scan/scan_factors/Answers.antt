use Rattle.list_laws.proofs.Kit.{◌≡◌, ℕ, ◌+◌, ◌-◌, ◌<◌, length, drop, take, List, arith, subst, refl, err_from_is_err_and, take_all}
use Rattle.std.proofs.lemmas.List.{length-drop}
use Rattle.jahn_grammar.specs.Views.{MarksAre}
use Rattle.jahn_grammar.proofs.Scans.{Scanned, Scanned-end, Ready, Ready-first, Ready-marks, Ready-faulty, Ready-more, Ready-only, factor_goes}
use Rattle.jahn_grammar.proofs.scan.scan_factors.Goals as goal

-- the slice is what is left of the word
same : (word : List ℕ) (at : ℕ) → take (length word - at) (drop at word) ≡ drop at word
same word at = take_all _ _ (omega (arith, length-drop at word))

ready : (word : List ℕ) (at rank n : ℕ) → Scanned word at rank → at < length word →
    MarksAre (take (length word - at) (drop at word)) n → Ready word (at + n) rank
ready word at rank n s lt h =
    let P : List ℕ → Type 0 = λ (v : List ℕ). MarksAre v n in Ready-marks word at rank n s lt (subst P (same word at) h)

pub returns-in_err-at : goal.returns-in_err-at
returns-in_err-at c =
    let word = c.args.word.now in
    let first = Ready-first word c.args.front c.requires.marks c.requires.fits c.requires.no_one in
    let p = err_from_is_err_and c.from_residual.result c.from_residual.ensures.1 in
    rw (p.1, p.2) (Ready-faulty word c.args.front 0 first c.in_err-at.field-0.0.place c.in_err-at.ensures.reads)

pub loop-at-init : goal.loop-at-init
loop-at-init c =
    let word = c.args.word.now in
    let first = Ready-first word c.args.front c.requires.marks c.requires.fits c.requires.no_one in
    Ready-only word c.args.front 0 first c.in_ok-at.at c.in_ok-at.rank c.in_ok-at.ensures.reads refl

pub returns-in_err-end : goal.returns-in_err-end
returns-in_err-end c =
    let word = c.args.word.now in
    let at = c.loop-at.at in
    let h = ready word at c.loop-at.rank c.marks_len.result c.loop-at.invariant c.loop-at-test.true c.marks_len.ensures in
    let p = err_from_is_err_and c.from_residual-in_err-end.result c.from_residual-in_err-end.ensures.1 in
    rw (p.1, p.2) (Ready-faulty word (at + c.marks_len.result) c.loop-at.rank h c.in_err-end.field-0.0.place c.in_err-end.ensures.reads)

pub loop-at-smaller : goal.loop-at-smaller
loop-at-smaller c =
    let more = factor_goes _ _ _ _ c.in_ok-end.ensures.reads in omega (arith, more, c.loop-at-test.true)

pub loop-at-preserved : goal.loop-at-preserved
loop-at-preserved c =
    let word = c.args.word.now in
    let at = c.loop-at.at in
    let h = ready word at c.loop-at.rank c.marks_len.result c.loop-at.invariant c.loop-at-test.true c.marks_len.ensures in
    Ready-more word (at + c.marks_len.result) c.loop-at.rank h c.in_ok-end.end c.in_ok-end.more c.min-rank.result
    c.in_ok-end.ensures.reads c.min-rank.ensures

pub returns : goal.returns
returns c =
    let h = Scanned-end c.args.word.now c.loop-at.at c.loop-at.rank c.loop-at.invariant (omega arith) in
    (h.0, h.1, c.rank_count.ensures _ h.2)
