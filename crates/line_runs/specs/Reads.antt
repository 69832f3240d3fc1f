-- What is held of the line that is read, and what one more read gives.
--   HasNoBreak      no byte is an LF
--   Stands          the line of which bytes are at hand: all of it, or the end of a line that is too long in each format
--   Gives           bytes within a budget, the end of the input, or a byte past the budget
-- Source: this project's own.
use Rattle.std.specs.Prelude.{◌≡◌, ◌≢◌, ℕ, ◌<◌, ◌≤◌, Bool, true, false, List, [], ◌++◌, length}
use Rattle.std.specs.List.{AllByRecursion}
use Rattle.std.specs.Io.KnownBytes.{Consumes, IsAtEnd}
use Rattle.std.specs.declared.option.Option.{Option}
use Rattle.line_runs.specs.declared.buffer.More.{More}
use Rattle.line_runs.specs.declared.buffer.More.TheVariants.{Bytes, End, Past}

abbrev pub HasNoBreak : List ℕ → Type 0
HasNoBreak bs = AllByRecursion (λ b. b ≢ 10) bs

abbrev pub Stands : Bool → List ℕ → List ℕ → Type 0
Stands true bytes line = 4000 < length line
Stands false bytes line = line ≡ bytes

abbrev pub Gives : More → ℕ → List ℕ → List ℕ → Option (List ℕ) → Option (List ℕ) → Type 0
Gives (Bytes n) budget held held' left left' =
    (0 < n) × (n ≤ budget)
    × ((bytes : List ℕ) × (length bytes ≡ n) × (held' ≡ held ++ bytes) × Consumes left left' bytes)
Gives End budget held held' left left' = (held' ≡ held) × Consumes left left' [] × IsAtEnd left'
Gives Past budget held held' left left' =
    (budget ≡ 0) × (held' ≡ held) × ((bytes : List ℕ) × (length bytes ≡ 1) × Consumes left left' bytes)
