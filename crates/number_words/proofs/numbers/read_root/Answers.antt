use Rattle.std.proofs.Common.{◌≡◌, length, arith}
use Rattle.fault_places.proofs.Furthest.{single_faulty}
use Rattle.number_words.specs.NumberWords.{root_word}
use Rattle.number_words.proofs.numbers.read_root.Goals as goal
use Rattle.number_words.proofs.numbers.read_root.Goals.{else-place-eq2-via-then-place-eq2+else-text-eq2, else-place-eq2-via-else-place-eq2}

pub returns-else-place-eq2 : goal.returns-else-place-eq2
returns-else-place-eq2 c =
    let f = c.common_front-place.ensures in
    let n = c.common_front-place.result in
    let part : n ≡ length root_word → n ≡ length c.args.text.now → ⊥ = elim c.else-place-eq2.branch [
      | else-place-eq2-via-then-place-eq2+else-text-eq2 w ↦ λ p q. let no = w.if-text-eq2.false in omega arith
      | else-place-eq2-via-else-place-eq2 w ↦ λ p q. let no = w.if-place-eq2.false in omega arith
    ] in
    single_faulty root_word c.args.text.now n f.within_a f.within_b f.same f.differ part
