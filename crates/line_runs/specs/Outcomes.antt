-- Outcomes of a run.
--   status_of       the exit status of an outcome
--   word_on         what a person is told of it: why a run ended before its time, and nothing of one that came to the end
--   outcome_at      the outcome of a run that came to the end of the input, and whether a line was refused, or of one
--                   that stopped before
-- Source: this project's own.
use Rattle.std.specs.Prelude.{ℕ, Bool, true, false, List, Some, None, Ok, Err, codes}
use Rattle.std.specs.declared.option.Option.{Option}
use Rattle.std.specs.declared.result.Result.{Result}
use Rattle.line_runs.specs.declared.outcome.Outcome.{Outcome}
use Rattle.line_runs.specs.declared.outcome.Outcome.TheVariants.{Answered, SomeRefused, Usage, ReadFault}
use Rattle.line_runs.specs.declared.outcome.Outcome.TheVariants.{WriteFault, NoMemory, InputLimit}
use Rattle.line_runs.specs.declared.outcome.Stop.{Stop}
use Rattle.line_runs.specs.declared.outcome.Stop.TheVariants.{Memory, Read, Write, Limit}

abbrev pub status_of : Outcome → ℕ
status_of Answered = 0
status_of SomeRefused = 1
status_of Usage = 2
status_of ReadFault = 3
status_of WriteFault = 4
status_of NoMemory = 5
status_of InputLimit = 6

abbrev pub word_on : Outcome → Option (List ℕ)
word_on Answered = None
word_on SomeRefused = None
word_on Usage = Some (codes "usage: tensors [--generate N --seed S]")
word_on ReadFault = Some (codes "tensors: reading standard input failed")
word_on WriteFault = Some (codes "tensors: writing standard output failed")
word_on NoMemory = Some (codes "tensors: memory was refused")
word_on InputLimit = Some (codes "tensors: standard input has more than 4294967296 bytes")

abbrev pub outcome_at : Result Bool Stop → Outcome
outcome_at (Ok false) = Answered
outcome_at (Ok true) = SomeRefused
outcome_at (Err Memory) = NoMemory
outcome_at (Err Read) = ReadFault
outcome_at (Err Write) = WriteFault
outcome_at (Err Limit) = InputLimit
