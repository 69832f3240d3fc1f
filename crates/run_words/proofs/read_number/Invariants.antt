use Rattle.run_words.proofs.Numbers.{ReadSoFar}
use Rattle.run_words.proofs.read_number.Given as goal

abbrev pub invariant-loop-byte : goal.invariant-loop-byte
invariant-loop-byte l = ReadSoFar l.bytes l.byte-index l.value
