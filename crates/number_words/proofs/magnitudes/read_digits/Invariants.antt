use Rattle.number_words.proofs.Digits.{IsFront}
use Rattle.number_words.proofs.magnitudes.read_digits.Given as goal

abbrev pub invariant-loop-count : goal.invariant-loop-count
invariant-loop-count l = IsFront l.text l.value l.count
