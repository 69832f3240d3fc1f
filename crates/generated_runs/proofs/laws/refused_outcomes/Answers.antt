use Rattle.std.proofs.Common.{◌≡◌, ℕ, ◌+◌, true, List, [], ◌∷◌, inl, inr, refl}
use Rattle.text_defs.specs.Lines.{HasRefused}
use Rattle.text_defs.specs.declared.Format.TheVariants.{One}
use Rattle.generated_runs.specs.Outcomes.{AreOutcomes, has_refused}
use Rattle.generated_runs.specs.Told.{Becomes}
use Rattle.generated_runs.specs.declared.counts.LineOutcome.{LineOutcome}
use Rattle.generated_runs.specs.declared.counts.LineOutcome.TheVariants.{Answered, Refused}
use Rattle.generated_runs.proofs.Passed.{not_passed}
use Rattle.generated_runs.proofs.laws.refused_outcomes.Goals as goal

lines_refused : (number : ℕ) (ls : List (List ℕ)) (os : List LineOutcome) → AreOutcomes Becomes number ls os →
    has_refused os ≡ true → HasRefused One number ls
lines_refused number [] [] are some = cc
lines_refused number [] (o ∷ os) are some = absurd are
lines_refused number (l ∷ ls) [] are some = absurd are
lines_refused number ([] ∷ ls) (o ∷ os) are some = absurd are.0
lines_refused number ((b ∷ bs) ∷ ls) (Answered k n ∷ os) are some = inr (lines_refused (number + 1) ls os are.1 some)
lines_refused number ((b ∷ bs) ∷ ls) (Refused w ∷ os) are some = inl (not_passed number b bs, are.0.0, are.0.1, are.0.2)

some_refused : (number : ℕ) (ls : List (List ℕ)) (os : List LineOutcome) → AreOutcomes Becomes number ls os →
    HasRefused One number ls → has_refused os ≡ true
some_refused number [] os are h = absurd h
some_refused number (l ∷ ls) [] are h = absurd are
some_refused number ([] ∷ ls) (o ∷ os) are h = absurd are.0
some_refused number ((b ∷ bs) ∷ ls) (Answered k n ∷ os) are (inl here) = absurd (are.0.1.0 here)
some_refused number ((b ∷ bs) ∷ ls) (Answered k n ∷ os) are (inr later) = some_refused (number + 1) ls os are.1 later
some_refused number ((b ∷ bs) ∷ ls) (Refused w ∷ os) are h = refl

pub returns : goal.returns
returns c = λ number lines os are. (lines_refused number lines os are, some_refused number lines os are)
