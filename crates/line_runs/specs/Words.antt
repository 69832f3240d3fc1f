-- The words of refusals as the code has them.
--   word_of         the word that they stand for
-- Source: this project's own.
use Rattle.text_defs.specs.Refusals.{RefusalWord}
use Rattle.line_runs.specs.declared.refusals.Word.{Word}
use Rattle.line_runs.specs.declared.refusals.Word.TheVariants.{Long, Syntax, Primes, Rank, Shape, NotSub, TooLarge}

abbrev pub word_of : Word → RefusalWord
word_of Long = RefusalWord.Long
word_of Syntax = RefusalWord.Syntax
word_of Primes = RefusalWord.Primes
word_of Rank = RefusalWord.Rank
word_of Shape = RefusalWord.Shape
word_of (NotSub first) = RefusalWord.NotSub first
word_of TooLarge = RefusalWord.TooLarge
