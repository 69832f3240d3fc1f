use Rattle.std.proofs.Common.{◌≡◌, ℕ, suc, ◌-◌, ◌<◌, ◌∙◌, sym, subst, length, get_or, List, arith}
use Rattle.jahn_grammar.specs.Views.{IsOpening}
use Rattle.jahn_grammar.proofs.Atoms.{Closed, Opened-start, Opened-more, Opened-wrong, Opened-short, Closed-start, Closed-no_power, Closed-no_sign, Closed-more}
use Rattle.jahn_grammar.proofs.scan.scan_atom.Goals as goal
use Rattle.jahn_grammar.proofs.scan.scan_atom.Goals.{then-loop-depth-test+else-is_opening, else-loop-depth-test, then-depth-word-via-then-depth-word, then-depth-word-via-else-depth-word+then-word-depth-ne86, then-at-word-via-then-at-word, then-at-word-via-else-at-word+then-not-is_power, then-at-word-2-via-then-at-word-2, then-at-word-2-via-else-at-word-2+then-word-at}

pub loop-depth-init : goal.loop-depth-init
loop-depth-init c = Opened-start c.args.word.now

pub loop-depth-preserved : goal.loop-depth-preserved
loop-depth-preserved c = Opened-more c.args.word.now c.loop-depth.depth c.loop-depth.invariant c.loop-depth-test.true c.if-is_opening.ensures

pub returns-then-depth-word : goal.returns-then-depth-word
returns-then-depth-word c =
    let word = c.args.word.now in
    let depth = c.loop-depth.depth in
    let h = c.loop-depth.invariant in
    elim c.loop-depth-test.branch [
      | then-loop-depth-test+else-is_opening w ↦
          let not_open : IsOpening (get_or word depth 0) → ⊥ = w.if-is_opening.ensures in
          elim c.then-depth-word.branch [
            | then-depth-word-via-then-depth-word v ↦ Opened-short word depth h (omega arith)
            | then-depth-word-via-else-depth-word+then-word-depth-ne86 v ↦ Opened-wrong word depth h w.loop-depth-test.true not_open v.if-word-depth-ne86.true
          ]
      | else-loop-depth-test w ↦ Opened-short word depth h (omega arith)
    ]

pub loop-open-init : goal.loop-open-init
loop-open-init c =
    let lt : c.loop-depth.depth < length c.args.word.now = elim c.loop-depth-test.branch [ then-loop-depth-test+else-is_opening w ↦ w.loop-depth-test.true | else-loop-depth-test w ↦ absurd (c.if-depth-word.false (omega (arith, c.loop-depth.invariant.through.within))) ] in
    Closed-start c.args.word.now c.loop-depth.depth c.loop-depth.invariant lt c.if-word-depth-ne86.false

step_down : (n : ℕ) → 0 < n → n ≡ suc (n - 1)
step_down n h = omega arith

inner : (word : List ℕ) (n at rank : ℕ) → 0 < n → Closed word n at rank → Closed word (suc (n - 1)) at rank
inner word n at rank some h = let P : ℕ → Type 0 = λ (k : ℕ). Closed word k at rank in subst P (step_down n some) h

pub returns-then-at-word : goal.returns-then-at-word
returns-then-at-word c =
    let h = inner c.args.word.now c.loop-open.open c.loop-open.at c.loop-open.rank (omega arith) c.loop-open.invariant in
    Closed-no_power c.args.word.now (c.loop-open.open - 1) c.loop-open.at c.loop-open.rank h (λ lt. elim c.then-at-word.branch [ then-at-word-via-then-at-word w ↦ absurd (omega arith) | then-at-word-via-else-at-word+then-not-is_power w ↦ w.if-not-is_power.ensures ])

pub returns-then-at-word-2 : goal.returns-then-at-word-2
returns-then-at-word-2 c =
    let h = inner c.args.word.now c.loop-open.open c.loop-open.at c.loop-open.rank (omega arith) c.loop-open.invariant in
    Closed-no_sign c.args.word.now (c.loop-open.open - 1) c.loop-open.at c.loop-open.rank h (omega arith) c.if-not-is_power.ensures (λ lt. elim c.then-at-word-2.branch [ then-at-word-2-via-then-at-word-2 w ↦ absurd (omega arith) | then-at-word-2-via-else-at-word-2+then-word-at w ↦ λ e. w.if-word-at.true (e ∙ sym w.closing_of.ensures) ])

pub loop-open-preserved : goal.loop-open-preserved
loop-open-preserved c =
    let h = inner c.args.word.now c.loop-open.open c.loop-open.at c.loop-open.rank (omega arith) c.loop-open.invariant in
    Closed-more c.args.word.now (c.loop-open.open - 1) c.loop-open.at c.loop-open.rank h c.capped_product-rank.result (omega arith) c.if-not-is_power.ensures (omega arith) (c.if-word-at.false ∙ c.closing_of.ensures) c.capped_product-rank.ensures
