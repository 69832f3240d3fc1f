use Rattle.std.proofs.Common.{◌≡◌, ℕ, ◌-◌, ◌*◌, ◌<◌, length, get_or, drop, take, min, List, arith, subst}
use Rattle.std.proofs.lemmas.List.{take_all, length-drop}
use Rattle.jahn_grammar.specs.Views.{AtomIs, IsDigit}
use Rattle.jahn_grammar.proofs.FactorTexts.{scanned_power, scanned_bare}
use Rattle.jahn_grammar.proofs.scan.scan_factor.Goals as goal
use Rattle.jahn_grammar.proofs.scan.scan_factor.Goals.{then-used-rest+else-is_power, else-used-rest}

-- the slice is what is left of the word
same : (word : List ℕ) (start : ℕ) → take (length word - start) (drop start word) ≡ drop start word
same word start = take_all _ _ (omega (arith, length-drop start word))

pub returns-in-Ok-clause-reads : goal.returns-in-Ok-clause-reads
returns-in-Ok-clause-reads c =
    let word = c.args.word.now in
    let start = c.args.start in
    let is = same word start in
    let A : List ℕ → Type 0 = λ (v : List ℕ). AtomIs v c.in-Ok.used c.in-Ok.rank in
    let atom : AtomIs (take (length word - start) (drop start word)) c.in-Ok.used c.in-Ok.rank = c.in-Ok.ensures in
    let L : List ℕ → Type 0 = λ (v : List ℕ). c.in-Ok.used < length v in
    let D : List ℕ → Type 0 = λ (v : List ℕ). IsDigit (get_or v c.in-Ok.used 0) in
    let E : List ℕ → Type 0 = λ (v : List ℕ). c.capped_product.result ≡ min ((get_or v c.in-Ok.used 0 - 48) * c.in-Ok.rank) 7 in
    scanned_power word start c.in-Ok.used c.in-Ok.rank c.capped_product.result (subst A is atom)
    (subst L is c.if-used-rest.true) (subst D is c.if-is_power.ensures) (subst E is c.capped_product.ensures)

pub returns-in-Ok-2-clause-reads : goal.returns-in-Ok-2-clause-reads
returns-in-Ok-2-clause-reads c =
    let word = c.args.word.now in
    let start = c.args.start in
    let is = same word start in
    let A : List ℕ → Type 0 = λ (v : List ℕ). AtomIs v c.in-Ok.used c.in-Ok.rank in
    let atom : AtomIs (take (length word - start) (drop start word)) c.in-Ok.used c.in-Ok.rank = c.in-Ok.ensures in
    let N : List ℕ → Type 0 = λ (v : List ℕ). c.in-Ok.used < length v → IsDigit (get_or v c.in-Ok.used 0) → ⊥ in
    let none : N (take (length word - start) (drop start word)) = λ lt. elim c.if-used-rest.branch [
      | then-used-rest+else-is_power w ↦ w.if-is_power.ensures
      | else-used-rest w ↦ absurd (omega (arith, w.if-used-rest.false, lt))
    ] in
    scanned_bare word start c.in-Ok.used c.in-Ok.rank (subst A is atom) (subst N is none)
