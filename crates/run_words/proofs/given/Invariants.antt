use Rattle.std.proofs.Common.{◌≡◌, map, take, string_bytes}
use Rattle.run_words.specs.Words.{given_words}
use Rattle.run_words.proofs.given.Given as goal

abbrev pub invariant-loop-word : goal.invariant-loop-word
invariant-loop-word l = map (λ s. s.now) l.all.items ≡ given_words (map string_bytes (take l.word-index l.words))
