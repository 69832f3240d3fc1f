-- The summary of a generated run.
--   entry           a word and a number
--   summary_text    its seventeen lines
--   AreCounts       numbers that are the counts of these outcomes
-- Source: this project's own.
use Rattle.std.specs.Prelude.{◌≡◌, ℕ, List, [], ◌∷◌, ◌++◌, codes, map}
use Rattle.std.specs.Fmt.{decimal}
use Rattle.text_defs.specs.AnswerTexts.{line_of}
use Rattle.generated_runs.specs.Requests.{kinds, name_of}
use Rattle.generated_runs.specs.Outcomes.{refusals, answered, refused, free_total, has_refused}
use Rattle.generated_runs.specs.declared.counts.Refusal.{Refusal}
use Rattle.generated_runs.specs.declared.counts.Refusal.TheVariants.{Long, Syntax, Primes, Rank, Shape, NotSub, TooLarge}
use Rattle.generated_runs.specs.declared.counts.LineOutcome.{LineOutcome}
use Rattle.generated_runs.specs.declared.counts.Counts.{Counts}

abbrev pub word_of : Refusal → List ℕ
word_of Long = codes "long"
word_of Syntax = codes "syntax"
word_of Primes = codes "primes"
word_of Rank = codes "rank"
word_of Shape = codes "shape"
word_of NotSub = codes "notsub"
word_of TooLarge = codes "toolarge"

-- a word and a number
abbrev pub entry : List ℕ → ℕ → List ℕ
entry word n = line_of (word ∷ decimal n ∷ [])

-- words with their numbers
abbrev pub entries : List (List ℕ) → List ℕ → List ℕ
entries (w ∷ ws) (n ∷ ns) = entry w n ++ entries ws ns
entries _ _ = []

-- so many lines with these outcomes
abbrev pub summary_text : ℕ → List LineOutcome → List ℕ
summary_text lines os =
    entry (codes "lines") lines
    ++ (entries (map name_of kinds) (map (λ k. answered k os) kinds)
    ++ (entries (map word_of refusals) (map (λ w. refused w os) refusals)
    ++ (entry (codes "free") (free_total os) ++ entry (codes "end") lines)))

pub record AreCounts (os : List LineOutcome) (c : Counts) : Type 0 where
  pub answered_are : c.answered ≡ map (λ k. answered k os) kinds
  pub refused_are : c.refused ≡ map (λ w. refused w os) refusals
  pub free_is : c.free ≡ free_total os
  pub any_is : c.any_refused ≡ has_refused os
