-- What becomes of lines, and how many of them there are of each sort.
--   AreOutcomes    what becomes of lines that are numbered from a number
--   answered, refused    how many lines of a kind are answered, and how many are refused with a word
--   free_total     the sum of the numbers of free components
--   has_refused    some line is refused
-- What may become of a line is given.
-- Source: this project's own.
use Rattle.std.specs.Prelude.{ℕ, ◌+◌, ◌==◌, Bool, true, false, List, [], ◌∷◌, count_by}
use Rattle.std.specs.List.{list_any, sum_by}
use Rattle.generated_runs.specs.declared.draws.Kind.{Kind}
use Rattle.generated_runs.specs.declared.draws.Kind.TheVariants.{Form, Group, Voigt, States, Pairs, Differ, Same}
use Rattle.generated_runs.specs.declared.counts.Refusal.{Refusal}
use Rattle.generated_runs.specs.declared.counts.Refusal.TheVariants.{Long, Syntax, Primes, Rank, Shape, NotSub, TooLarge}
use Rattle.generated_runs.specs.declared.counts.LineOutcome.{LineOutcome}
use Rattle.generated_runs.specs.declared.counts.LineOutcome.TheVariants.{Answered, Refused}

-- an outcome is told of the number of a line and the line
abbrev pub AreOutcomes : (ℕ → List ℕ → LineOutcome → Type 0) → ℕ → List (List ℕ) → List LineOutcome → Type 0
AreOutcomes Becomes number [] [] = Unit {0}
AreOutcomes Becomes number (l ∷ ls) (o ∷ os) = Becomes number l o × AreOutcomes Becomes (number + 1) ls os
AreOutcomes Becomes number _ _ = ⊥

-- places of the kinds and of the refusals
abbrev pub place_of : Kind → ℕ
place_of Form = 0
place_of Group = 1
place_of Voigt = 2
place_of States = 3
place_of Pairs = 4
place_of Differ = 5
place_of Same = 6

abbrev pub refusals : List Refusal
refusals = Long ∷ Syntax ∷ Primes ∷ Rank ∷ Shape ∷ NotSub ∷ TooLarge ∷ []

abbrev pub place_among : Refusal → ℕ
place_among Long = 0
place_among Syntax = 1
place_among Primes = 2
place_among Rank = 3
place_among Shape = 4
place_among NotSub = 5
place_among TooLarge = 6

abbrev pub is_answered : Kind → LineOutcome → Bool
is_answered kind (Answered k free) = place_of kind == place_of k
is_answered kind (Refused word) = false

abbrev pub is_refused_so : Refusal → LineOutcome → Bool
is_refused_so word (Answered k free) = false
is_refused_so word (Refused w) = place_among word == place_among w

abbrev pub is_refused : LineOutcome → Bool
is_refused (Answered k free) = false
is_refused (Refused word) = true

abbrev pub free_in : LineOutcome → ℕ
free_in (Answered k free) = free
free_in (Refused word) = 0

abbrev pub answered : Kind → List LineOutcome → ℕ
answered kind os = count_by (λ o. is_answered kind o) os

abbrev pub refused : Refusal → List LineOutcome → ℕ
refused word os = count_by (λ o. is_refused_so word o) os

abbrev pub free_total : List LineOutcome → ℕ
free_total os = sum_by (λ o. free_in o) os

abbrev pub has_refused : List LineOutcome → Bool
has_refused os = list_any (λ o. is_refused o) os
