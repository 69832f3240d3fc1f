-- Answers that wait to be written, and where the answer of one line stops. `before` and `now` are what the sink tells before
-- and after.
--   Waits           answers wait still, or all of them were written
--   StopsAt         for want of memory, with all that waited written; or by a fault of the sink, with a front of it, or of it
--                   and the answer, written that isn't all
-- Source: this project's own.
use Rattle.std.specs.Prelude.{◌≡◌, ◌⊎◌, ℕ, Bool, List, []}
use Rattle.std.specs.declared.option.Option.{Option}
use Rattle.tensor_ports.specs.Bytes.{Grows, GrowsInPart}
use Rattle.text_defs.specs.declared.Format.{Format}
use Rattle.line_runs.specs.Answering.{Appends, IsQuick}
use Rattle.line_runs.specs.Reads.{Stands}
use Rattle.line_runs.specs.declared.outcome.Stop.{Stop}
use Rattle.line_runs.specs.declared.outcome.Stop.TheVariants.{Memory, Write}

abbrev pub Waits : List ℕ → List ℕ → Option (List ℕ) → Option (List ℕ) → Type 0
Waits answers waiting before now = ((now ≡ before) × (waiting ≡ answers)) ⊎ ((waiting ≡ []) × Grows before now answers)

-- of the line with this number of which these bytes are at hand
abbrev pub StopsAt : Stop → Format → ℕ → Bool → List ℕ → List ℕ → Option (List ℕ) → Option (List ℕ) → Type 0
StopsAt Memory format number is_long held waiting before now =
    Grows before now waiting × ((line : List ℕ) → Stands is_long held line → IsQuick format number line → ⊥)
StopsAt Write format number is_long held waiting before now =
    GrowsInPart before now waiting
    ⊎ ((all : List ℕ) × Appends format number is_long held waiting all × GrowsInPart before now all)
StopsAt _ format number is_long held waiting before now = ⊥
